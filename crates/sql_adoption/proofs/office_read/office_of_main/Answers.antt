use Rattle.std.proofs.Common.{rules}
use Rattle.sql_adoption.proofs.PutDomains.{main_put}
use Rattle.sql_adoption.proofs.OpensBlame.{fault_mild, memory_mild}
use Rattle.sql_adoption.proofs.office_read.office_of_main.Goals as goal

pub returns-clause-read : goal.returns-clause-read
returns-clause-read c =
    main_put c.args.rows.now c.in_ok-maps.maps c.main_domain-main.result c.new-langs.result.items (record { maps = c.put_told.new.maps; domains = c.in_ok-domains.domains; langs = c.put_told.new.langs })
    c.in_ok-maps.ensures c.main_domain-main.ensures (search rules) c.in_ok-domains.ensures c.in_ok-put_told.ensures.put c.in_ok-put_told.ensures.all

pub returns-in_err-domains-clause-disk : goal.returns-in_err-domains-clause-disk
returns-in_err-domains-clause-disk c = memory_mild c.from_residual.result c.from_residual.ensures.1

pub returns-in_err-maps-clause-disk : goal.returns-in_err-maps-clause-disk
returns-in_err-maps-clause-disk c = memory_mild c.from_residual-in_err-maps.result c.from_residual-in_err-maps.ensures.1

pub returns-in_err-put_told-clause-disk : goal.returns-in_err-put_told-clause-disk
returns-in_err-put_told-clause-disk c = fault_mild _ c.from_residual-in_err-put_told.result c.from_residual-in_err-put_told.ensures.1 c.in_err-put_told.ensures.disk

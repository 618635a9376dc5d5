-- Of what a stop may leave there is one proof at most, so a struct can keep it in a ghost field.
use base.Stored.{Coded, Coded-set, coded_ℕ, coded_list, coded×, coded_via}
use Rattle.std.specs.FinMap as maps
use Rattle.po_text.specs.contracts.entry.Entry as entry
use Rattle.units.specs.contracts.unit.Unit as unit
use Rattle.units.specs.contracts.unit.Key as key
use Rattle.units.specs.contracts.unit.Role as role
use Rattle.units.specs.contracts.unit.Policy as policy
use Rattle.po_text.specs.Texts.{Text}
use Rattle.units.specs.Office.{Office, Domain}
use Rattle.request_book.specs.Book.{OfficeWithBook, Recorded}

text_code : Coded Text
text_code = coded_list coded_ℕ

domain_code : Coded Domain
domain_code = coded_via
    (coded× (coded_list (entry.the_row).coded) (coded× (maps.code text_code (entry.the_row).coded) (maps.code (coded× text_code (key.the_row).coded) (unit.the_row).coded)))
    (λ (d : Domain). (d.template, (d.headers, d.units)))
    (λ x y e i. record { template = (e i).0; headers = (e i).1.0; units = (e i).1.1 })

office_code : Coded Office
office_code = coded_via (coded× (maps.code text_code domain_code) (coded× (maps.code text_code (role.the_row).coded) (policy.the_row).coded))
    (λ (o : Office). (o.domains, (o.team, o.policy)))
    (λ x y e i. record { domains = (e i).0; team = (e i).1.0; policy = (e i).1.1 })

recorded_code : Coded Recorded
recorded_code = coded_via (coded× text_code (coded× coded_ℕ text_code)) (λ (r : Recorded). (r.content, (r.reply.status, r.reply.body)))
    (λ x y e i. record { content = (e i).0; reply = record { status = (e i).1.0; body = (e i).1.1 } })

office_with_book_code : Coded OfficeWithBook
office_with_book_code = coded_via (coded× office_code (maps.code text_code recorded_code)) (λ (m : OfficeWithBook). (m.office, m.book))
    (λ x y e i. record { office = (e i).0; book = (e i).1 })

pub meaning_set : IsSet OfficeWithBook
meaning_set = Coded-set office_with_book_code

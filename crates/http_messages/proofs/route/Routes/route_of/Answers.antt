use Rattle.std.proofs.Common.{refl}
use Rattle.http_messages.proofs.RouteLaw.{is_path, not_found, found_so}
use Rattle.http_messages.proofs.route.Routes.route_of.Goals as goal

pub returns-in_default : goal.returns-in_default
returns-in_default c = not_found c.args.path.now c.self.inside.router (is_path c.args.path.now c.type_inv.path c.utf8.path) c.self.invariant c.in_default.ensures.missing

pub returns : goal.returns
returns c =
    let found = c.in-Ok.found in
    found_so c.args.path.now c.self.inside.router (record { pattern = found.params.pattern.now; text = found.params.text.now; names = found.params.names.now; value = found.value.now }) found.params.path.now c.part_name.result.now c.get.result c.get-2.result c.unwrap_or.result _
    (is_path c.args.path.now c.type_inv.path c.utf8.path) c.self.invariant c.in-Ok.ensures.found c.in-Ok.ensures.path c.part_name.ensures c.unwrap_or.ensures refl c.get.ensures c.get-2.ensures

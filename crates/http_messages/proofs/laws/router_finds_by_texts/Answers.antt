use Rattle.http_messages.proofs.RouteLaw.{router_finds}
use Rattle.http_messages.proofs.laws.router_finds_by_texts.Goals as goal

pub returns : goal.returns
returns c = λ path bytes text. router_finds path (record { bytes = bytes; text = text })

use Rattle.std.proofs.Common.{◌++◌, ◌∷◌, [], refl, ap}
use Rattle.po_lex.specs.Lines.{keyword_text}
use Rattle.byte_streams.proofs.Sent.{begin, outcome}
use Rattle.po_write.proofs.strings.write_keyword.Goals as goal

pub returns-in-MsgidPlural : goal.returns-in-MsgidPlural
returns-in-MsgidPlural g c = outcome _ _ _ (begin _ _ (ap (λ k. keyword_text k ++ 32 ∷ 34 ∷ []) c.in-MsgidPlural.is)) refl c.send-in-MsgidPlural.ensures

pub returns-in-MsgstrAt : goal.returns-in-MsgstrAt
returns-in-MsgstrAt g c = outcome _ _ _ (begin _ _ (ap (λ k. keyword_text k ++ 32 ∷ 34 ∷ []) c.in-MsgstrAt.is)) refl c.send-in-MsgstrAt.ensures

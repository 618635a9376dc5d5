use Rattle.std.proofs.Common.{◌≡◌, ◌<◌, ◌-◌, ◌∷◌, ◌++◌, [], ℕ, List, length, Option, Some, None, MatchOption, IsSome, zero, suc, refl, ap, sym, ◌∙◌, subst, arith}
use Rattle.std.specs.List.{fold, slice_get}
use Rattle.std.specs.Option.{option_to_list}
use Rattle.std.proofs.lemmas.List.Sums.{fold-append}
use native.Mathlib.Numerals.{unary_clauses}
use Rattle.plural_expr.specs.declared.frame.Frame.{Frame as FrameNode}
use Rattle.plural_expr.specs.Trees.{Tree as TreeView, variable}
use Rattle.plural_expr.specs.Plain.{Frame as FrameView, reduced}
use Rattle.plural_expr.specs.PlainFrames.{plain_frame, plain_frames}
use Rattle.plural_expr.proofs.frames.pop_bound.Goals as goal

-- what a frame is read before those outside of it
abbrev within : List FrameView → FrameNode → List FrameView
within outer frame = plain_frame frame ∷ outer

-- the last frame is the innermost
last_read : (inside : List FrameView) (frames : List FrameNode) (n : ℕ) (frame : FrameNode) →
    length frames ≡ suc n → slice_get frames n ≡ Some frame → (outer : List FrameView) × (fold within inside frames ≡ plain_frame frame ∷ outer)
last_read inside [] n frame len h = absurd cc
last_read inside (first ∷ []) zero frame len h = (inside, cc)
last_read inside (first ∷ []) (suc n) frame len h = absurd cc
last_read inside (first ∷ second ∷ frames) zero frame len h = absurd cc
last_read inside (first ∷ second ∷ frames) (suc n) frame len h = last_read (plain_frame first ∷ inside) (second ∷ frames) n frame (cc len) h

innermost : (frames seen : List FrameNode) (frame : FrameNode) → seen ≡ frames → Some frame ≡ slice_get seen (length seen - 1) →
    (outer : List FrameView) × (plain_frames frames ≡ plain_frame frame ∷ outer)
innermost frames [] frame same last = absurd cc
innermost frames (first ∷ more) frame same last =
    let read = last_read [] (first ∷ more) (length more) frame refl (simp unary_clauses at (sym last)) in
    (read.0, sym (ap plain_frames same) ∙ read.1)

popped : (next : ℕ) (old new seen : List FrameNode) (found : Option FrameNode) (frame : FrameNode) →
    old ≡ new ++ option_to_list found → (0 < length seen → IsSome found) → seen ≡ old → Some frame ≡ slice_get seen (length seen - 1) →
    (reduced next (plain_frame frame ∷ []) variable).0 ≡ [] →
    MatchOption found
    ((tree : TreeView) → reduced next (plain_frames old) tree ≡ (plain_frames new, tree))
    (λ x. (plain_frames old ≡ plain_frame x ∷ plain_frames new) × ((reduced next (plain_frame x ∷ []) variable).0 ≡ []))
popped next old new [] None frame items some same last bound = absurd cc
popped next old new (first ∷ seen) None frame items some same last bound = absurd (let e : IsSome {T = FrameNode} None = some (omega arith) in cc)
popped next old new seen (Some x) frame items some same last bound =
    let read : plain_frames old ≡ plain_frame x ∷ plain_frames new = ap plain_frames items ∙ fold-append within [] new (x ∷ []) in
    let inner : plain_frame frame ≡ plain_frame x = let it = innermost old seen frame same last in cc (read, it.1) in
    (read, subst (λ (f : FrameView). (reduced next (f ∷ []) variable).0 ≡ []) inner bound)

pub returns-then-binds-clause-taken : goal.returns-then-binds-clause-taken
returns-then-binds-clause-taken c =
    popped c.args.next c.args.frames.now.items c.pop.new.self.items c.deref.result.now c.pop.result c.in_ok-last.field-0.now
    c.pop.ensures.items (λ (h : 0 < length c.deref.result.now). c.pop.ensures.variant.1 (omega arith)) c.deref.ensures.value c.in_ok-last.ensures.value (c.binds.ensures.bound c.if-binds.true)

pub returns-else-binds-clause-taken : goal.returns-else-binds-clause-taken
returns-else-binds-clause-taken c =
    let inner = innermost c.args.frames.now.items c.deref.result.now c.in_ok-last.field-0.now c.deref.ensures.value c.in_ok-last.ensures.value in
    λ tree. rw inner.1 (c.binds.ensures.open c.if-binds.false inner.0 tree)

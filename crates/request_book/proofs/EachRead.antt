-- A list of data is read one item after another.
use Rattle.std.proofs.Common.{◌≡◌, ℕ, ◌+◌, ◌<◌, ◌≤◌, List, [], ◌∷◌, ◌++◌, Bool, true, Option, Some, None, option_map, length, get_or, drop, refl, sym, ap, ◌∙◌, add-one, append_assoc}
use Rattle.std.specs.List.{list_all}
use Rattle.std.proofs.Math.Seq.{drop-cons}
use Rattle.std.proofs.lemmas.List.{append-nil, drop_all}
use Rattle.std.proofs.lemmas.List.Folds.{list_all-append}
use Rattle.serde_json.specs.Data.{Data, Items, item}
use Rattle.serde_json.specs.View.{view, items_view}
use Rattle.serde_json.specs.declared.value.Value.{Value}
use Rattle.request_book.specs.Fields.{each_of}

-- what is left from a place on begins with the item at that place
left_at : (vs : List Value) (i : ℕ) (v : Value) → i < length vs → v ≡ get_or vs i v → drop i vs ≡ v ∷ drop (i + 1) vs
left_at vs i v within is = drop-cons vs i v within ∙ (λ k. sym is k ∷ drop (sym (add-one i) k) vs)

one_more : {A : Type 0} (front : List A) (x : A) (o : Option (List A)) → option_map (λ ts. front ++ ts) (option_map (λ ts. x ∷ ts) o) ≡ option_map (λ ts. (front ++ x ∷ []) ++ ts) o
one_more front x None = refl
one_more front x (Some ts) = ap Some (sym (append_assoc front (x ∷ []) ts))

item_read : {A : Type 0} (f : Data → Option A) (front : List A) (d : Data) (x : A) (ds : Items) → f d ≡ Some x
    → option_map (λ ts. front ++ ts) (each_of f (item d ds)) ≡ option_map (λ ts. (front ++ x ∷ []) ++ ts) (each_of f ds)
item_read f front d x ds read = rw read (one_more front x (each_of f ds))

-- one item more was read
pub next_read : {A : Type 0} (f : Data → Option A) (vs : List Value) (i : ℕ) (v : Value) (front next : List A) (x : A) (all : Option (List A)) → i < length vs → v ≡ get_or vs i v
    → all ≡ option_map (λ ts. front ++ ts) (each_of f (items_view (drop i vs))) → f (view v) ≡ Some x → next ≡ front ++ x ∷ []
    → all ≡ option_map (λ ts. next ++ ts) (each_of f (items_view (drop (i + 1) vs)))
next_read f vs i v front next x all within is read here more =
    read ∙ ap (λ ws. option_map (λ ts. front ++ ts) (each_of f (items_view ws))) (left_at vs i v within is)
    ∙ item_read f front (view v) x (items_view (drop (i + 1) vs)) here ∙ (λ k. option_map (λ ts. sym more k ++ ts) (each_of f (items_view (drop (i + 1) vs))))

-- all were read
pub all_read : {A : Type 0} (f : Data → Option A) (vs : List Value) (i : ℕ) (front : List A) (all : Option (List A)) → length vs ≤ i
    → all ≡ option_map (λ ts. front ++ ts) (each_of f (items_view (drop i vs))) → all ≡ Some front
all_read f vs i front all past read = read ∙ ap (λ ws. option_map (λ ts. front ++ ts) (each_of f (items_view ws))) (drop_all i vs past) ∙ ap Some (append-nil front)

none_at_item : {A : Type 0} (f : Data → Option A) (front : List A) (d : Data) (ds : Items) → f d ≡ None → option_map (λ ts. front ++ ts) (each_of f (item d ds)) ≡ None
none_at_item f front d ds none = rw none refl

-- one can't be read
pub none_read : {A : Type 0} (f : Data → Option A) (vs : List Value) (i : ℕ) (v : Value) (front : List A) (all : Option (List A)) → i < length vs → v ≡ get_or vs i v
    → all ≡ option_map (λ ts. front ++ ts) (each_of f (items_view (drop i vs))) → f (view v) ≡ None → all ≡ None
none_read f vs i v front all within is read none =
    read ∙ ap (λ ws. option_map (λ ts. front ++ ts) (each_of f (items_view ws))) (left_at vs i v within is) ∙ none_at_item f front (view v) (items_view (drop (i + 1) vs)) none

-- one more passes
pub next_passes : {A : Type 0} (p : A → Bool) (front next : List A) (x : A) → list_all p front ≡ true → p x ≡ true → next ≡ front ++ x ∷ [] → list_all p next ≡ true
next_passes p front next x fit here more = ap (list_all p) more ∙ list_all-append p front (x ∷ []) ∙ (rw (fit, here) refl)

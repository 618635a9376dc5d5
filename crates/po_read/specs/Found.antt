-- The keys of whole entries, found by their hashes: this project's own rule.
use Rattle.std.specs.Prelude.{◌≡◌, ◌⊎◌, ◌<◌, ◌+◌, ◌/◌, ◌^◌, ℕ, List, [], ◌∷◌, Bool, true, Option, Some, None, IsSome, length, if◌then◌else◌}
use Rattle.std.specs.List.{list_any, slice_get}
use Rattle.std.specs.Ordering.{nat_cmp}
use Rattle.std.specs.BTreeMap.{BTreeMap, get}
use Rattle.std.specs.BTreeSet.{BTreeSet, contains}
use Rattle.std.specs.Hash.FoldHasher as folding
use Rattle.po_text.specs.Entries.{Key, is_header_key, same_key}
use Rattle.po_text.specs.Keys.{entry_key_cmp}
use Rattle.po_text.specs.Texts.{Text}
use Rattle.po_text.specs.declared.key.EntryKey.{EntryKey}

-- the key as a value
abbrev pub key_at_hand : Option Text → Text → EntryKey
key_at_hand ctx id = record { ctx = ctx; id = id }

abbrev pub pair_of : EntryKey → Key
pair_of key = (key.ctx, key.id)

-- it is one of the keys
abbrev pub has_key : Option Text → Text → List EntryKey → Bool
has_key ctx id keys = list_any (λ key. same_key (pair_of key) (ctx, id)) keys

-- how many there are besides the header's, which comes first
abbrev pub count_in : List EntryKey → ℕ
count_in [] = 0
count_in (key ∷ keys) = if is_header_key key.ctx key.id then length keys else length keys + 1

-- The msgid is hashed, and the context behind it. The upper half of that is the key's hash.
abbrev pub key_hash : Option Text → Text → ℕ
key_hash None id = folding.finish (folding.write folding.initial id) / 2 ^ 32
key_hash (Some ctx) id = folding.finish (folding.write (folding.write folding.initial id) ctx) / 2 ^ 32

-- The key is the first of its hash, or there is a first one and it is among the others.
abbrev pub IsFoundAt : BTreeMap ℕ ℕ → BTreeSet EntryKey → ℕ → EntryKey → Type 0
IsFoundAt firsts others i key =
    (get nat_cmp firsts (key_hash key.ctx key.id) ≡ Some i) ⊎ (IsSome (get nat_cmp firsts (key_hash key.ctx key.id)) × (contains entry_key_cmp others key ≡ true))

pub record AreFound (keys : List EntryKey) (firsts : BTreeMap ℕ ℕ) (others : BTreeSet EntryKey) : Type 0 where
  pub each : (i : ℕ) (key : EntryKey) → slice_get keys i ≡ Some key → IsFoundAt firsts others i key
  -- and nothing else is found
  pub places : (hash i : ℕ) → get nat_cmp firsts hash ≡ Some i → i < length keys
  pub known : (key : EntryKey) → contains entry_key_cmp others key ≡ true → has_key key.ctx key.id keys ≡ true

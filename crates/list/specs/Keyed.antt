use Rattle.std.specs.Prelude.{◌≡◌, find, position, ℕ, suc, if◌then◌else◌, List, [], ◌∷◌, ◌++◌, Some, None, Option, ◌==◌}
use Rattle.std.specs.Option.{option_map}

-- the index of the first entry that has the key sought, and that entry, if one has it
abbrev pub taken : {X : Type 0} → (X → ℕ) → ℕ → List X → Option (ℕ × X)
taken key sought [] = None
taken key sought (x ∷ xs) = if key x == sought then Some (0, x) else option_map (λ p. (suc p.0, p.1)) (taken key sought xs)

-- the index of the first entry that has the key sought, if one has it
abbrev pub index_of : {X : Type 0} → (X → ℕ) → ℕ → List X → Option ℕ
index_of key sought xs = position (λ x. key x == sought) xs

-- the first entry that has the key sought, if one has it
abbrev pub entry_of : {X : Type 0} → (X → ℕ) → ℕ → List X → Option X
entry_of key sought xs = find (λ x. key x == sought) xs

-- all entries but the first that has the key sought, in their order
abbrev pub without : {X : Type 0} → (X → ℕ) → ℕ → List X → List X
without key sought [] = []
without key sought (x ∷ xs) = if key x == sought then xs else x ∷ without key sought xs

-- all entries but the first that has the key sought, in their order, and then that one
abbrev pub moved : {X : Type 0} → (X → ℕ) → ℕ → List X → List X
moved key sought [] = []
moved key sought (x ∷ xs) = if key x == sought then xs ++ (x ∷ []) else x ∷ moved key sought xs

-- all entries, of which the first that has the key sought is altered
abbrev pub altered : {X : Type 0} → (X → ℕ) → ℕ → (X → X) → List X → List X
altered key sought alter [] = []
altered key sought alter (x ∷ xs) = if key x == sought then alter x ∷ xs else x ∷ altered key sought alter xs

-- no two entries have the same key
abbrev pub Distinct : {X : Type 0} → (X → ℕ) → List X → Type 0
Distinct key [] = Unit {0}
Distinct key (x ∷ xs) = (entry_of key (key x) xs ≡ None) × Distinct key xs

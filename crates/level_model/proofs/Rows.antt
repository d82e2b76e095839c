-- ways of a set, when one of them gets something else
use Rattle.std.proofs.Common.{◌≡◌, ℕ, zero, suc, ◌+◌, ◌*◌, ◌/◌, ◌%◌, ◌<◌, ◌≤◌, Bool, true, false, cond, not, eqb, ltb, leb, List, [], ◌∷◌, map, length, get_or, set, take, position, Some, None, Option, sym, refl, ap, ◌∙◌, subst, ⊎_elim, ◌⊎◌, inl, inr, true≢false, arith, eqb-true, eq-eqb, ne_eqb, length-set, length-take, mod-lt}
use Rattle.line.specs.Counts.{is_count}
use Rattle.line.specs.Laid.{bit}
use Rattle.replacement.proofs.Once.{chosen, count_small}
use Rattle.replacement.specs.Orders.{EachOnce, first_offered, picked}
use Rattle.replacement.specs.declared.geometry.Geometry.{Geometry}
use Rattle.level_model.specs.Facts.{way_for}
use Rattle.level_model.specs.Kept.{ways_for}
use Rattle.level_model.specs.Steps.{choice}
use Rattle.list.specs.Totals.{total}
use Rattle.level_model.specs.Ways.{is_empty, is_reserved, holds, is_for, row, way_at, holding, index_for, lowest_empty, mask_of, unreserved, with_way}
use Rattle.level_model.specs.declared.tables.Tables.{Tables}
use Rattle.level_model.specs.declared.ways.CachedLine.{CachedLine}
use Rattle.level_model.specs.declared.ways.Way.{Way}
use Rattle.level_model.specs.declared.ways.Way.TheVariants.{Empty, Reserved, Filled}
use Rattle.level_model.specs.declared.ways.Ways.{Ways}
use Rattle.std.proofs.lemmas.Bool.{cases_eq}
use Rattle.std.proofs.lemmas.Bool.Decides.{nat_tests}
use Rattle.std.proofs.lemmas.List.{get_or-set_same, get_or-set_other, get_or-take, get_or-map}
use Rattle.std.proofs.lemmas.List.Sums.{fails_before_first, passes_at_first}
use Rattle.std.proofs.lemmas.Nat.Bits.{bit_at_lowest, bit_at-suc, bit_at-zero}
use Rattle.std.specs.List.{position_or_len}
use Rattle.std.specs.Option.{option_or}

-- the set of the way has the other thing there
pub row_same : (ways : Ways) (s w : ℕ) (x : Way) → s < length ways.sets → row (with_way s w x ways) s ≡ set (row ways s) w x
row_same ways s w x there = get_or-set_same ways.sets s (set (row ways s) w x) [] there

-- other sets stay
pub row_other : (ways : Ways) (s w k : ℕ) (x : Way) → (k ≡ s → ⊥) → row (with_way s w x ways) k ≡ row ways k
row_other ways s w k x other = get_or-set_other ways.sets s k (set (row ways s) w x) [] other

-- there are as many sets as before
pub sets_stay : (ways : Ways) (s w : ℕ) (x : Way) → length (with_way s w x ways).sets ≡ length ways.sets
sets_stay ways s w x = length-set ways.sets s (set (row ways s) w x)

-- and each has as many ways
pub row_length : (ways : Ways) (s w k : ℕ) (x : Way) → s < length ways.sets → length (row (with_way s w x ways) k) ≡ length (row ways k)
row_length ways s w k x there =
    ⊎_elim
    (λ same.
    ap (λ i. length (row (with_way s w x ways) i)) same
    ∙ ap length (row_same ways s w x there)
    ∙ length-set (row ways s) w x
    ∙ ap (λ i. length (row ways i)) (sym same))
    (λ other. ap length (row_other ways s w k x other))
    (cases_eq k s)

total_set : {X : Type 0} (f : X → ℕ) (xs : List X) (w : ℕ) (x d : X) → w < length xs → total f (set xs w x) + f (get_or xs w d) ≡ total f xs + f x
total_set f [] w x d h = absurd (omega arith)
total_set f (y ∷ ys) zero x d h = omega arith
total_set f (y ∷ ys) (suc w) x d h = let rest = total_set f ys w x d (omega arith) in omega (arith, rest)

-- what a set counts for a line, when a way of it gets something else
pub ways_for_set : (j w : ℕ) (ws : List Way) (x : Way) → w < length ws → ways_for j (set ws w x) + cond (is_for j (get_or ws w Empty)) 1 0 ≡ ways_for j ws + cond (is_for j x) 1 0
ways_for_set j w ws x h = total_set (λ way. cond (is_for j way) 1 0) ws w x Empty h

none_step : (j : ℕ) (x : Way) (b : Bool) (xs : List Way) → cond b 1 0 + ways_for j xs ≡ 0 → (ways_for j xs ≡ 0 → way_for j xs ≡ Empty) → cond b x (way_for j xs) ≡ Empty
none_step j x true xs h rest = absurd (omega arith)
none_step j x false xs h rest = rest (omega arith)

-- where none is counted for a line, none is the line's
pub none_for : (j : ℕ) (ws : List Way) → ways_for j ws ≡ 0 → way_for j ws ≡ Empty
none_for j [] h = refl
none_for j (x ∷ xs) h = none_step j x (is_for j x) xs h (none_for j xs)

-- an empty way is for no line
not_empty : (j : ℕ) (x : Way) → is_for j x ≡ true → x ≡ Empty → ⊥
not_empty j x e z = true≢false (sym e ∙ ap (is_for j) z)

for_none_step : (j : ℕ) (x : Way) (b : Bool) (xs : List Way) → is_for j x ≡ b → cond b x (way_for j xs) ≡ Empty → (way_for j xs ≡ Empty → ways_for j xs ≡ 0) → cond b 1 0 + ways_for j xs ≡ 0
for_none_step j x true xs is h rest = absurd (not_empty j x is h)
for_none_step j x false xs is h rest = let none = rest h in omega arith

-- and the other way round
pub for_none : (j : ℕ) (ws : List Way) → way_for j ws ≡ Empty → ways_for j ws ≡ 0
for_none j [] h = refl
for_none j (x ∷ xs) h = for_none_step j x (is_for j x) xs refl h (for_none j xs)

-- a way that is for a line counts
pub counted : (j w : ℕ) (ws : List Way) → w < length ws → is_for j (get_or ws w Empty) ≡ true → 1 ≤ ways_for j ws
counted j w [] h e = absurd (omega arith)
counted j zero (x ∷ xs) h e = let one : ◌≡◌ {A = ℕ} (cond (is_for j x) 1 0) 1 = ap (λ b. cond b 1 0) e in omega arith
counted j (suc w) (x ∷ xs) h e = let rest = counted j w xs (omega arith) e in omega arith

here_step : (j w : ℕ) (x : Way) (b : Bool) (xs : List Way) → 1 ≤ ways_for j xs → cond b 1 0 + ways_for j xs ≤ 1 → (ways_for j xs ≤ 1 → way_for j xs ≡ get_or xs w Empty) → cond b x (way_for j xs) ≡ get_or xs w Empty
here_step j w x true xs some few rest = absurd (omega arith)
here_step j w x false xs some few rest = rest (omega arith)

-- the only way that is for a line is the line's
pub here : (j w : ℕ) (ws : List Way) → w < length ws → is_for j (get_or ws w Empty) ≡ true → ways_for j ws ≤ 1 → way_for j ws ≡ get_or ws w Empty
here j w [] h e few = absurd (omega arith)
here j zero (x ∷ xs) h e few = ap (λ b. cond b x (way_for j xs)) e
here j (suc w) (x ∷ xs) h e few = here_step j w x (is_for j x) xs (counted j w xs (omega arith) e) few (here j w xs (omega arith) e)

-- a line that a way neither was for nor is for keeps its way
pub same_for : (j w : ℕ) (ws : List Way) (x : Way) → w < length ws → is_for j (get_or ws w Empty) ≡ false → is_for j x ≡ false → way_for j (set ws w x) ≡ way_for j ws
same_for j w [] x h was is = absurd (omega arith)
same_for j zero (y ∷ ys) x h was is = ap (λ b. cond b x (way_for j ys)) is ∙ sym (ap (λ b. cond b y (way_for j ys)) was)
same_for j (suc w) (y ∷ ys) x h was is = ap (λ r. cond (is_for j y) y r) (same_for j w ys x (omega arith) was is)

at_step : (j : ℕ) (x : Way) (b : Bool) (xs : List Way) → is_for j x ≡ b → ((way_for j xs ≡ Empty) ⊎ ((w : ℕ) × (w < length xs) × (get_or xs w Empty ≡ way_for j xs) × (is_for j (way_for j xs) ≡ true))) → (cond b x (way_for j xs) ≡ Empty) ⊎ ((w : ℕ) × (w < length (x ∷ xs)) × (get_or (x ∷ xs) w Empty ≡ cond b x (way_for j xs)) × (is_for j (cond b x (way_for j xs)) ≡ true))
at_step j x true xs is rest = inr (0, omega arith, refl, is)
at_step j x false xs is rest = ⊎_elim (λ e. inl e) (λ r. inr (suc r.0, let h = r.1 in omega arith, r.2, r.3)) rest

-- the way of a line is empty, or one of the set's that is for the line
pub way_for_at : (j : ℕ) (ws : List Way) → (way_for j ws ≡ Empty) ⊎ ((w : ℕ) × (w < length ws) × (get_or ws w Empty ≡ way_for j ws) × (is_for j (way_for j ws) ≡ true))
way_for_at j [] = inl refl
way_for_at j (x ∷ xs) = at_step j x (is_for j x) xs refl (way_for_at j xs)

-- a way that is not empty, and that is a line's, is for the line
pub way_for_is : (j : ℕ) (ws : List Way) → (way_for j ws ≡ Empty → ⊥) → is_for j (way_for j ws) ≡ true
way_for_is j ws n = ⊎_elim (λ e. absurd (n e)) (λ r. r.3) (way_for_at j ws)

filled_not_empty : (held : CachedLine) → ◌≡◌ {A = Way} (Filled held) Empty → ⊥
filled_not_empty held e = true≢false (sym (ap is_empty e))

-- the way of a line holds that line, or is reserved for it
pub way_for_filled : (j : ℕ) (ws : List Way) (held : CachedLine) → way_for j ws ≡ Filled held → held.line ≡ j
way_for_filled j ws held e = eqb-true held.line j (sym (ap (is_for j) e) ∙ way_for_is j ws (λ z. filled_not_empty held (sym e ∙ z)))

-- the first index that passes a test passes it
position_some : {X : Type 0} (test : X → Bool) (xs : List X) (d : X) (w : ℕ) → position test xs ≡ Some w → (w < length xs) × (test (get_or xs w d) ≡ true)
position_some {X} test xs d w e = go (ltb (position_or_len test xs) (length xs)) refl e
  where
    go : (b : Bool) → ltb (position_or_len test xs) (length xs) ≡ b → cond b (Some (position_or_len test xs)) None ≡ Some w → (w < length xs) × (test (get_or xs w d) ≡ true)
    go true is z =
        let inside : position_or_len test xs < length xs = grind (arith, nat_tests) in
        let same : position_or_len test xs ≡ w = cc in
        (omega arith, ap (λ i. test (get_or xs i d)) (sym same) ∙ passes_at_first test xs d inside)
    go false is z = absurd (let y : ◌≡◌ {A = ℕ} 0 1 = cc in omega arith)

-- where there is none, no index passes
position_none : {X : Type 0} (test : X → Bool) (xs : List X) (d : X) → position test xs ≡ None → (w : ℕ) → w < length xs → test (get_or xs w d) ≡ false
position_none {X} test xs d e w h = go (ltb (position_or_len test xs) (length xs)) refl e
  where
    go : (b : Bool) → ltb (position_or_len test xs) (length xs) ≡ b → cond b (Some (position_or_len test xs)) None ≡ None → test (get_or xs w d) ≡ false
    go true is z = absurd (let y : ◌≡◌ {A = ℕ} 0 1 = cc in omega arith)
    go false is z = fails_before_first test xs w d (grind (arith, nat_tests))

holds_filled : (j : ℕ) (x : Way) → holds j x ≡ true → (held : CachedLine) × (x ≡ Filled held) × (held.line ≡ j)
holds_filled j Empty e = absurd (true≢false (sym e))
holds_filled j (Reserved line) e = absurd (true≢false (sym e))
holds_filled j (Filled held) e = (held, refl, eqb-true held.line j e)

-- the way that is found to hold a line holds it
pub holding_some : (j : ℕ) (ws : List Way) (w : ℕ) → holding j ws ≡ Some w → (w < length ws) × ((held : CachedLine) × (get_or ws w Empty ≡ Filled held) × (held.line ≡ j))
holding_some j ws w e = let p = position_some (holds j) ws Empty w e in (p.0, holds_filled j (get_or ws w Empty) p.1)

-- where none is found, the line's way does not hold it
pub holding_none : (j : ℕ) (ws : List Way) → holding j ws ≡ None → (held : CachedLine) → way_for j ws ≡ Filled held → ⊥
holding_none j ws e held is =
    ⊎_elim
    (λ none. filled_not_empty held (sym is ∙ none))
    (λ r.
    true≢false
    (sym (eq-eqb held.line j (way_for_filled j ws held is))
    ∙ sym (ap (holds j) (r.2 ∙ is))
    ∙ position_none (holds j) ws Empty e r.0 r.1))
    (way_for_at j ws)

-- the way that is found for a line is for it
pub index_some : (j : ℕ) (ws : List Way) (w : ℕ) → index_for j ws ≡ Some w → (w < length ws) × (is_for j (get_or ws w Empty) ≡ true)
index_some j ws w e = position_some (is_for j) ws Empty w e

-- where none is found, the line has none
pub index_none : (j : ℕ) (ws : List Way) → index_for j ws ≡ None → way_for j ws ≡ Empty
index_none j ws e =
    ⊎_elim
    (λ none. none)
    (λ r. absurd (true≢false (sym r.3 ∙ sym (ap (is_for j) r.2) ∙ position_none (is_for j) ws Empty e r.0 r.1)))
    (way_for_at j ws)

empty_is : (x : Way) → is_empty x ≡ true → x ≡ Empty
empty_is Empty e = refl
empty_is (Reserved line) e = absurd (true≢false (sym e))
empty_is (Filled held) e = absurd (true≢false (sym e))

-- the way that is found to be empty is
pub lowest_empty_some : (n : ℕ) (ws : List Way) (w : ℕ) → lowest_empty n ws ≡ Some w → (w < n) × (w < length ws) × (get_or ws w Empty ≡ Empty)
lowest_empty_some n ws w e =
    let p = position_some is_empty (take n ws) Empty w e in
    let within : w < length (take n ws) = p.0 in
    let long = length-take n ws in
    (omega arith, omega arith, sym (get_or-take n ws w Empty (omega arith)) ∙ empty_is (get_or (take n ws) w Empty) p.1)

lowest_bit : (b : Bool) (m : ℕ) → eqb ((cond b 1 0 + 2 * m) % 2) 1 ≡ b
lowest_bit true m = eq-eqb _ _ (omega arith)
lowest_bit false m = ne_eqb _ _ (λ e. omega arith)

half : (b : Bool) (m : ℕ) → (cond b 1 0 + 2 * m) / 2 ≡ m
half true m = omega arith
half false m = omega arith

-- a mask has bit i where test i holds
pub bit_mask : (bs : List Bool) (w : ℕ) → bit (mask_of bs) w ≡ get_or bs w false
bit_mask [] w = ap (λ n. eqb n 1) (bit_at-zero w)
bit_mask (b ∷ bs) zero = ap (λ n. eqb n 1) (bit_at_lowest (mask_of (b ∷ bs))) ∙ lowest_bit b (mask_of bs)
bit_mask (b ∷ bs) (suc w) = ap (λ n. eqb n 1) (bit_at-suc (mask_of (b ∷ bs)) w) ∙ ap (λ m. bit m w) (half b (mask_of bs)) ∙ bit_mask bs w

-- the mask of the ways that are not reserved has their bits
pub unreserved_bit : (ws : List Way) (w : ℕ) → w < length ws → bit (unreserved ws) w ≡ not (is_reserved (get_or ws w Empty))
unreserved_bit ws w h = bit_mask (map (λ way. not (is_reserved way)) ws) w ∙ get_or-map (λ way. not (is_reserved way)) ws w Empty false h

-- each line has one way at most, and that in its own set
abbrev pub OwnWay : Geometry → Ways → Type 0
OwnWay g ways = (set line : ℕ) → ways_for line (row ways set) ≤ cond (eqb (line % g.sets) set) 1 0

-- ways past those of the geometry hold nothing
abbrev pub Beyond : Geometry → Ways → Type 0
Beyond g ways = (set way : ℕ) → g.ways ≤ way → way_at ways set way ≡ Empty

-- so a way that holds something, or is reserved, is one of the geometry's
pub is_inside : (g : Geometry) (ways : Ways) → Beyond g ways → (s w : ℕ) → (way_at ways s w ≡ Empty → ⊥) → w < g.ways
is_inside g ways beyond s w some = go (leb g.ways w) refl
  where
    go : (b : Bool) → leb g.ways w ≡ b → w < g.ways
    go true e = absurd (some (beyond s w (grind (arith, nat_tests))))
    go false e = grind (arith, nat_tests)

-- and they stay empty where one of the geometry's gets something else
pub put_beyond : (g : Geometry) (ways : Ways) (s w : ℕ) (x : Way) → s < length ways.sets → w < g.ways → Beyond g ways → Beyond g (with_way s w x ways)
put_beyond g ways s w x there below beyond set way past =
    ⊎_elim
    (λ same.
    ap (λ k. get_or (row (with_way s w x ways) k) way Empty) same
    ∙ ap (λ ws. get_or ws way Empty) (row_same ways s w x there)
    ∙ get_or-set_other (row ways s) w way x Empty (λ e. omega arith)
    ∙ beyond s way past)
    (λ other. ap (λ ws. get_or ws way Empty) (row_other ways s w set x other) ∙ beyond set way past)
    (cases_eq set s)

-- a way of a set gets something else
module _ (g : Geometry) (ways : Ways) (own : OwnWay g ways) (s w : ℕ) (there : s < length ways.sets) (within : w < length (row ways s)) (x : Way) where
  -- what the way was for is a line of this set, and the way is that line's
  pub held_is : (j : ℕ) → is_for j (way_at ways s w) ≡ true → (j % g.sets ≡ s) × (way_for j (row ways (j % g.sets)) ≡ way_at ways s w)
  held_is j e =
      let some = counted j w (row ways s) within e in
      let few = own s j in
      let same : j % g.sets ≡ s = grind (arith, nat_tests) in
      (same, ap (λ k. way_for j (row ways k)) same ∙ here j w (row ways s) within e (grind (arith, nat_tests)))

  -- a line that the way neither was for nor is for keeps its way
  pub put_other : (j : ℕ) → is_for j (way_at ways s w) ≡ false → is_for j x ≡ false → way_for j (row (with_way s w x ways) (j % g.sets)) ≡ way_for j (row ways (j % g.sets))
  put_other j was is =
      ⊎_elim
      (λ same.
      ap (λ k. way_for j (row (with_way s w x ways) k)) same
      ∙ ap (way_for j) (row_same ways s w x there)
      ∙ same_for j w (row ways s) x within was is
      ∙ ap (λ k. way_for j (row ways k)) (sym same))
      (λ other. ap (way_for j) (row_other ways s w (j % g.sets) x other))
      (cases_eq (j % g.sets) s)

  -- how many ways of this set are for a line now
  put_count : (j : ℕ) → ways_for j (row (with_way s w x ways) s) + cond (is_for j (way_at ways s w)) 1 0 ≡ ways_for j (row ways s) + cond (is_for j x) 1 0
  put_count j = ap (λ ws. ways_for j ws + cond (is_for j (way_at ways s w)) 1 0) (row_same ways s w x there) ∙ ways_for_set j w (row ways s) x within

  -- what it is for now is of this set, and had this way or none
  module _ (fits : (j : ℕ) → is_for j x ≡ true → (j % g.sets ≡ s) × ((is_for j (way_at ways s w) ≡ true) ⊎ (way_for j (row ways s) ≡ Empty))) where
    own_here : (j : ℕ) (b : Bool) → is_for j x ≡ b → ways_for j (row (with_way s w x ways) s) ≤ cond (eqb (j % g.sets) s) 1 0
    own_here j false is =
        let count = put_count j in
        let now : ◌≡◌ {A = ℕ} (cond (is_for j x) 1 0) 0 = ap (λ b. cond b 1 0) is in
        let few = own s j in
        omega arith
    own_here j true is =
        let count = put_count j in
        let now : ◌≡◌ {A = ℕ} (cond (is_for j x) 1 0) 1 = ap (λ b. cond b 1 0) is in
        let few = own s j in
        let fit = fits j is in
        let one : ◌≡◌ {A = ℕ} (cond (eqb (j % g.sets) s) 1 0) 1 = ap (λ b. cond b 1 0) (eq-eqb (j % g.sets) s fit.0) in
        ⊎_elim
        (λ was. let before : ◌≡◌ {A = ℕ} (cond (is_for j (way_at ways s w)) 1 0) 1 = ap (λ b. cond b 1 0) was in omega arith)
        (λ none. let zeros = for_none j (row ways s) none in omega arith)
        fit.1

    -- each line still has one way at most, and that in its own set
    pub put_own : OwnWay g (with_way s w x ways)
    put_own k j =
        ⊎_elim
        (λ same. subst (λ i. ways_for j (row (with_way s w x ways) i) ≤ cond (eqb (j % g.sets) i) 1 0) (sym same) (own_here j (is_for j x) refl))
        (λ other. let stays = ap (ways_for j) (row_other ways s w k x other) in let few = own k j in omega arith)
        (cases_eq k s)

    -- the line that the way is for now has it
    pub put_new : (j : ℕ) → is_for j x ≡ true → way_for j (row (with_way s w x ways) (j % g.sets)) ≡ x
    put_new j is =
        let same = (fits j is).0 in
        let at : get_or (set (row ways s) w x) w Empty ≡ x = get_or-set_same (row ways s) w x Empty within in
        let few : ways_for j (row (with_way s w x ways) s) ≤ 1 = let most = own_here j (is_for j x) refl in grind (arith, nat_tests) in
        ap (λ k. way_for j (row (with_way s w x ways) k)) same
        ∙ ap (way_for j) (row_same ways s w x there)
        ∙ here j w (set (row ways s) w x) (rw (length-set (row ways s) w x) within) (rw at is) (rw (← row_same ways s w x there) few)
        ∙ at

    -- the line that it was for has none now
    pub put_gone : (j : ℕ) → is_for j (way_at ways s w) ≡ true → is_for j x ≡ false → way_for j (row (with_way s w x ways) (j % g.sets)) ≡ Empty
    put_gone j was is =
        let same = (held_is j was).0 in
        let count = put_count j in
        let before : ◌≡◌ {A = ℕ} (cond (is_for j (way_at ways s w)) 1 0) 1 = ap (λ b. cond b 1 0) was in
        let now : ◌≡◌ {A = ℕ} (cond (is_for j x) 1 0) 0 = ap (λ b. cond b 1 0) is in
        let few : ways_for j (row ways s) ≤ 1 = let most = own s j in grind (arith, nat_tests) in
        ap (λ k. way_for j (row (with_way s w x ways) k)) same ∙ none_for j (row (with_way s w x ways) s) (omega arith)

-- a count is 1 or more
pub count_some : (n : ℕ) → is_count n ≡ true → 1 ≤ n
count_some n h = grind (arith, nat_tests)

-- a geometry has some sets and ways, and few
pub sets_some : (g : Geometry) → 1 ≤ g.sets
sets_some g = count_some g.sets g.sets_count

pub sets_few : (g : Geometry) → g.sets ≤ 8
sets_few g = count_small g.sets g.sets_count

pub ways_some : (g : Geometry) → 1 ≤ g.ways
ways_some g = count_some g.ways g.ways_count

pub ways_few : (g : Geometry) → g.ways ≤ 8
ways_few g = count_small g.ways g.ways_count

-- the set of a line is one of the geometry's
pub set_small : (g : Geometry) (line : ℕ) → line % g.sets < g.sets
set_small g line = mod-lt line (sets_some g)

not_reserved : (b : Bool) → not b ≡ true → b ≡ false
not_reserved true e = sym e
not_reserved false e = refl

is_kept : (b : Bool) → not b ≡ false → b ≡ true
is_kept true e = refl
is_kept false e = sym e

-- the way that is reserved next, among the ways of a set
module _ (g : Geometry) (order : ℕ → List ℕ) (t : Tables) (s : ℕ) (once : EachOnce g.ways (order s)) (long : length (row t.ways s) ≡ 8) (inside : s < g.sets) where
  picked_is : picked g.sets order s (unreserved (row t.ways s)) ≡ first_offered (unreserved (row t.ways s)) (order s)
  picked_is = grind (arith, nat_tests)

  picked_some : (w : ℕ) → picked g.sets order s (unreserved (row t.ways s)) ≡ Some w → (w < g.ways) × (is_reserved (way_at t.ways s w) ≡ false)
  picked_some w e =
      let c = chosen g s (unreserved (row t.ways s)) (order s) (Some w) inside once (sym e ∙ picked_is) in
      let few = ways_few g in
      let below = c.1 in
      let within : w < length (row t.ways s) = omega arith in
      (below, not_reserved (is_reserved (way_at t.ways s w)) (sym (unreserved_bit (row t.ways s) w within) ∙ c.2))

  choice_within : (w : ℕ) → choice g order t s ≡ Some w → (w < g.ways) × (is_reserved (way_at t.ways s w) ≡ false)
  choice_within w e = go (lowest_empty g.ways (row t.ways s)) refl e
    where
      go : (r : Option ℕ) → lowest_empty g.ways (row t.ways s) ≡ r → option_or r (picked g.sets order s (unreserved (row t.ways s))) ≡ Some w → (w < g.ways) × (is_reserved (way_at t.ways s w) ≡ false)
      go None is z = picked_some w z
      go (Some v) is z =
          let same : v ≡ w = cc in
          let low = lowest_empty_some g.ways (row t.ways s) w (is ∙ z) in
          (low.0, ap is_reserved low.2)

  -- where none is, all are reserved
  pub choice_none : choice g order t s ≡ None → (w : ℕ) → w < g.ways → is_reserved (way_at t.ways s w) ≡ true
  choice_none e w below = go (lowest_empty g.ways (row t.ways s)) e
    where
      go : (r : Option ℕ) → option_or r (picked g.sets order s (unreserved (row t.ways s))) ≡ None → is_reserved (way_at t.ways s w) ≡ true
      go None z =
          let few = ways_few g in
          let within : w < length (row t.ways s) = omega arith in
          let c = chosen g s (unreserved (row t.ways s)) (order s) None inside once (sym z ∙ picked_is) in
          is_kept (is_reserved (way_at t.ways s w)) (sym (unreserved_bit (row t.ways s) w within) ∙ c inside w below)
      go (Some v) z = absurd (let y : ◌≡◌ {A = ℕ} 0 1 = cc in omega arith)

-- it is one of the set's, and not reserved
pub choice_some : (g : Geometry) (order : ℕ → List ℕ) (t : Tables) (s w : ℕ) → EachOnce g.ways (order s) → length (row t.ways s) ≡ 8 → s < g.sets → choice g order t s ≡ Some w → (w < g.ways) × (is_reserved (way_at t.ways s w) ≡ false)
choice_some g order t s w once long inside e = choice_within g order t s once long inside w e

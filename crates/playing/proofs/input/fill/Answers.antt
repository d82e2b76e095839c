-- What is read stands behind what was read before it.
use Rattle.std.proofs.Common.{◌≡◌, ℕ, ◌+◌, ◌-◌, ◌≤◌, Option, List, ◌++◌, length, take, drop, rules, ap, sym, ◌∙◌, subst, le_refl, drop_at, length-take-le}
use Rattle.std.proofs.lemmas.Slice.{take-put_mid_below}
use Rattle.std.proofs.lemmas.List.{take-append-le}
use Rattle.std.specs.Io.KnownBytes.{Consumes}
use Rattle.std.proofs.KnownBytes.{Consumes-trans, Consumes-kept}
use borrow.Rule.Slice.PartMut.{put_mid, post_of}
use Rattle.std.proofs.Math.Seq.{take-add}
use Rattle.playing.proofs.input.fill.Goals as goal
use Rattle.playing.proofs.input.fill.Goals.{in-Ok, in-Err}

-- the front of a list and n bytes of what was written behind it
take-put_mid_more : (f k n : ℕ) (xs ys : List ℕ) → f ≤ length xs → n ≤ length ys → take (f + n) (put_mid f k xs ys) ≡ take f xs ++ take n ys
take-put_mid_more f k n xs ys within fits =
    let all = put_mid f k xs ys in
    let behind = ap (take n) (drop_at (take f xs) (ys ++ post_of f k xs) f (length-take-le f xs within)) ∙ take-append-le n ys (post_of f k xs) fits in
    take-add f n all ∙ ap (λ l. l ++ take n (drop f all)) (take-put_mid_below f k xs ys f (le_refl f) within) ∙ ap (λ l. take f xs ++ l) behind

-- a reader that lost the front of a list and then n bytes more
Consumes-behind : (a b c : Option (List ℕ)) (f k n : ℕ) (xs ys : List ℕ) → f ≤ length xs → n ≤ length ys → Consumes a b (take f xs) → Consumes b c (take n ys) → Consumes a c (take (f + n) (put_mid f k xs ys))
Consumes-behind a b c f k n xs ys within fits first second =
    subst (Consumes a c) (sym (take-put_mid_more f k n xs ys within fits)) (Consumes-trans a b c _ _ first second)

pub loop-preserved : goal.loop-preserved
loop-preserved g c =
    let filled = c.loop.filled in
    let room = length c.loop.buffer - filled in
    let within = c.loop.invariant.1 in
    elim c.match-read.branch [
      | in-Ok w ↦ (
        search rules,
        search rules,
        rw w.filled-is (Consumes-behind _ _ _ filled room w.in-Ok.count c.loop.buffer c.read.new.buf within w.in-Ok.ensures.bound.0 c.loop.invariant.2 w.in-Ok.ensures.bytes.0),
      )
      | in-Err w ↦ (
        search rules,
        search rules,
        rw w.filled-is (subst (Consumes _ _) (sym (take-put_mid_below _ _ _ _ _ (le_refl _) within)) (Consumes-kept _ _ _ _ c.loop.invariant.2 w.in-Err.ensures.bytes)),
      )
    ]

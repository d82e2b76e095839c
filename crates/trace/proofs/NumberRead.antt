-- what the front of some bytes says of the number there
use Rattle.std.proofs.Common.{◌≡◌, ℕ, suc, ◌+◌, ◌-◌, ◌*◌, ◌<◌, ◌≤◌, ltb, leb, List, [], ◌∷◌, ◌++◌, length, get_or, take, drop, Some, None, refl, sym, ap, subst, ◌∙◌, arith, append_assoc}
use Rattle.std.proofs.lemmas.List.{at_drop_more, take-append-drop, length-take-le, length-append, get_or-take, get_or_default, get_or_append_left}
use Rattle.std.proofs.Math.Seq.{get_or-append_seam}
use Rattle.std.specs.List.{All}
use Rattle.std.proofs.lemmas.Bool.{lt-ltb, le-ltb, le-leb, and_from}
use Rattle.trace.specs.declared.refusal.Refusal.{Refusal}
use Rattle.trace.specs.declared.refusal.Refusal.TheVariants.{Truncated, Number}
use Rattle.trace.specs.Limits.{highest_number}
use Rattle.trace.specs.Parsed.{Took, Refuses, and_then}
use Rattle.trace.specs.Numbers.{number, grouped, or_refused, below, Continued, Ends}

tail_continued : (b : ℕ) (bs : List ℕ) (n : ℕ) → Continued (b ∷ bs) (suc n) → Continued bs n
tail_continued b bs n h k l = h (suc k) (omega arith)

pub one_group : (b : ℕ) (bs : List ℕ) → b < 128 → number (b ∷ bs) ≡ Took b bs
one_group b bs h = rw (lt-ltb b 128 h)

pub more_groups : (b : ℕ) (bs : List ℕ) → 128 ≤ b → number (b ∷ bs) ≡ and_then (number bs) (below (b - 128))
more_groups b bs h = rw (le-ltb b 128 h)

-- with no byte below 128 the number runs off the end
pub runs_off : (bs : List ℕ) → Continued bs (length bs) → number bs ≡ Refuses Truncated
runs_off [] h = refl
runs_off (b ∷ bs) h = more_groups b bs (h 0 (omega arith)) ∙ ap (λ p. and_then p (below (b - 128))) (runs_off bs (tail_continued b bs (length bs) h))

pub below_taken : (low high : ℕ) (rest : List ℕ) → 0 < high → high * 128 + low ≤ highest_number → below low high rest ≡ Took (high * 128 + low) rest
below_taken low high rest l h = rw (and_from (ltb 0 high) (leb (high * 128 + low) highest_number) (lt-ltb 0 high l) (le-leb (high * 128 + low) highest_number h))

-- the groups that are still to be read, and the number that those behind them make
pub record Above (bs left : List ℕ) (value : ℕ) (rest : List ℕ) : Type 0 where
  pub behind : List ℕ
  pub whole : bs ≡ left ++ behind
  pub groups : All (λ b. 128 ≤ b) left
  pub value_is : number behind ≡ Took value rest

-- at first all groups but the last are to be read
pub last_is_above : (bs : List ℕ) (last : ℕ) → Ends bs last → Above bs (take last bs) (get_or bs last 0) (drop (last + 1) bs)
last_is_above bs last h = record {
  behind = drop last bs;
  whole = sym (take-append-drop last bs);
  groups = λ k d l. let i : k < last = omega (arith, length-take-le last bs (omega arith)) in subst (λ b. 128 ≤ b) (sym (get_or-take last bs k d i ∙ get_or_default bs k d 0 (omega arith))) (h.2 k i);
  value_is = at_drop_more number bs last 0 h.0 ∙ one_group (get_or bs last 0) (drop (last + 1) bs) h.1;
}

-- a refusal further on is a refusal of the whole number
refused_on : (left behind : List ℕ) (r : Refusal) → All (λ b. 128 ≤ b) left → number behind ≡ Refuses r → number (left ++ behind) ≡ Refuses r
refused_on [] behind r h e = e
refused_on (b ∷ left) behind r h e = more_groups b (left ++ behind) (h 0 0 (omega arith)) ∙ ap (λ p. and_then p (below (b - 128))) (refused_on left behind r (λ k d l. h (suc k) d (omega arith)) e)

-- the last of the groups that are left is read
module _ (bs left : List ℕ) (g value : ℕ) (rest : List ℕ) (a : Above bs (left ++ g ∷ []) value rest) where
  whole : bs ≡ left ++ g ∷ a.behind
  whole = a.whole ∙ append_assoc left (g ∷ []) a.behind

  groups : All (λ b. 128 ≤ b) left
  groups k d l = subst (λ b. 128 ≤ b) (get_or_append_left left (g ∷ []) d k l) (a.groups k d (simp length-append (omega arith)))

  read : number (g ∷ a.behind) ≡ or_refused (grouped value (g - 128)) rest
  read =
      let large : 128 ≤ g = subst (λ b. 128 ≤ b) (get_or-append_seam left g [] 0) (a.groups (length left) 0 (simp length-append (omega arith))) in
      more_groups g a.behind large ∙ ap (λ p. and_then p (below (g - 128))) a.value_is

  pub group_is_below : (more : ℕ) → grouped value (g - 128) ≡ Some more → Above bs left more rest
  group_is_below more e = record { behind = g ∷ a.behind; whole = whole; groups = groups; value_is = read ∙ ap (λ o. or_refused o rest) e }

  pub group_is_refused : grouped value (g - 128) ≡ None → number bs ≡ Refuses Number
  group_is_refused e = ap number whole ∙ refused_on left (g ∷ a.behind) Number groups (read ∙ ap (λ o. or_refused o rest) e)

-- what a script owes: a request adds at most the script's length, and each step with a request open lowers it
use Rattle.std.proofs.Common.{◌≡◌, ℕ, zero, suc, ◌+◌, ◌%◌, ◌<◌, ◌≤◌, Bool, true, false, cond, ltb, List, [], ◌∷◌, ◌++◌, length, take, drop, get_or, Some, ◌&&◌, ◌==◌, sym, refl, ap, ◌∙◌, arith}
use Rattle.backing.proofs.Paces.{Falls, Paced}
use Rattle.std.proofs.Math.Nat.{mod-eq_of_lt, mod_self}
use Rattle.std.proofs.Math.Seq.{drop-cons, take-suc}
use Rattle.std.proofs.lemmas.Bool.{ltb-true, ltb-false}
use Rattle.std.proofs.lemmas.List.{append_assoc, take-append-drop, append-nil, drop_all, take_all, length-append, length-take, length-drop}
use Rattle.std.proofs.lemmas.List.Folds.{list_all-append}
use Rattle.list.specs.Zeros.{all_zero}
use Rattle.backing.specs.Script.{next_byte, index_after, answered_by, script_answers, ahead, steps_to_answer, script_owed, script_pace, ScriptSteps}
use Rattle.backing.specs.declared.script.Script.{Script}

-- no more steps than there are bytes
steps_within : (bytes : List ℕ) → steps_to_answer bytes ≤ length bytes
steps_within [] = omega arith
steps_within (zero ∷ bytes) = let h = steps_within bytes in omega arith
steps_within (suc k ∷ bytes) = omega arith

-- more bytes behind those that answer change nothing
steps_front : (bytes more : List ℕ) → all_zero bytes ≡ false → steps_to_answer (bytes ++ more) ≡ steps_to_answer bytes
steps_front [] more h = absurd (let z : ◌≡◌ {A = Bool} true false = h in let y : ◌≡◌ {A = ℕ} 0 1 = cc in omega arith)
steps_front (zero ∷ bytes) more h = ap suc (steps_front bytes more h)
steps_front (suc k ∷ bytes) more h = refl

some_steps : (byte : ℕ) (bytes : List ℕ) → 1 ≤ steps_to_answer (byte ∷ bytes)
some_steps zero bytes = omega arith
some_steps (suc k) bytes = omega arith

-- the order of two parts does not matter to whether all is zeros
zeros_swapped : (front back : List ℕ) → all_zero (front ++ back) ≡ false → all_zero (back ++ front) ≡ false
zeros_swapped front back h =
    list_all-append (λ byte. byte == 0) back front
    ∙ swap (all_zero front) (all_zero back) (sym (list_all-append (λ byte. byte == 0) front back) ∙ h)
  where
    swap : (a b : Bool) → (a && b) ≡ false → (b && a) ≡ false
    swap true true e = e
    swap true false e = refl
    swap false true e = refl
    swap false false e = refl

-- the bytes ahead begin with the next one
ahead_now : (bytes : List ℕ) (index : ℕ) → index < length bytes → drop index bytes ++ take index bytes ≡ get_or bytes index 0 ∷ (drop (suc index) bytes ++ take index bytes)
ahead_now bytes index h = ap (λ bs. bs ++ take index bytes) (drop-cons bytes index 0 h)

-- and in a step it goes behind the others
ahead_then : (bytes : List ℕ) (index : ℕ) → index < length bytes → drop ((index + 1) % length bytes) bytes ++ take ((index + 1) % length bytes) bytes ≡ (drop (suc index) bytes ++ take index bytes) ++ (get_or bytes index 0 ∷ [])
ahead_then bytes index h = go (ltb (suc index) (length bytes)) refl
  where
    one : index + 1 ≡ suc index
    one = omega arith

    -- the bytes ahead, from the next index on
    turned : drop (suc index) bytes ++ take (suc index) bytes ≡ (drop (suc index) bytes ++ take index bytes) ++ (get_or bytes index 0 ∷ [])
    turned = ap (λ bs. drop (suc index) bytes ++ bs) (take-suc bytes index 0 h) ∙ sym (append_assoc (drop (suc index) bytes) (take index bytes) (get_or bytes index 0 ∷ []))

    go : (b : Bool) → ltb (suc index) (length bytes) ≡ b → drop ((index + 1) % length bytes) bytes ++ take ((index + 1) % length bytes) bytes ≡ (drop (suc index) bytes ++ take index bytes) ++ (get_or bytes index 0 ∷ [])
    go true t = ap (λ k. drop k bytes ++ take k bytes) (ap (λ k. k % length bytes) one ∙ mod-eq_of_lt (ltb-true (suc index) (length bytes) t)) ∙ turned
    go false t =
        let last : suc index ≡ length bytes = (let n = ltb-false (suc index) (length bytes) t in omega arith) in
        let first : (index + 1) % length bytes ≡ 0 = ap (λ k. k % length bytes) (one ∙ last) ∙ mod_self (length bytes) in
        ap (λ k. drop k bytes ++ take k bytes) first
        ∙ append-nil bytes
        ∙ sym (ap (λ k. drop k bytes ++ take k bytes) last ∙ ap (λ bs. bs ++ take (length bytes) bytes) (drop_all (length bytes) bytes (omega arith)) ∙ take_all (length bytes) bytes (omega arith))
        ∙ turned

module _ (c : Script) where
  abbrev bytes : List ℕ
  bytes = c.bytes.items

  -- the bytes that are ahead after the next one
  abbrev rest : List ℕ
  rest = drop (suc c.index) bytes ++ take c.index bytes

  now : ahead c ≡ next_byte c ∷ rest
  now = ahead_now bytes c.index c.within

  then : (d : Script) → d.bytes.items ≡ c.bytes.items → d.index ≡ index_after c → ahead d ≡ rest ++ (next_byte c ∷ [])
  then d same moved = rw (same, moved) (ahead_then bytes c.index c.within)

  length_ahead : length (ahead c) ≡ length bytes
  length_ahead = length-append (drop c.index bytes) (take c.index bytes) ∙ (let w = c.within in simp (length-drop, length-take) (omega arith))

  -- the next answer is at most a whole script away, and at least a step
  most : steps_to_answer (ahead c) ≤ length bytes
  most = rw (← length_ahead) (steps_within (ahead c))

  least : 1 ≤ steps_to_answer (ahead c)
  least = rw now (some_steps (next_byte c) rest)

  answers_ahead : all_zero (ahead c) ≡ false
  answers_ahead = zeros_swapped (take c.index bytes) (drop c.index bytes) (ap all_zero (take-append-drop c.index bytes) ∙ c.answers)

script_pace_is_some : (c : Script) → 1 ≤ script_pace c
script_pace_is_some c = let w = c.within in omega arith

script_owing : (c : Script) (n : ℕ) → 1 ≤ script_owed c (suc n)
script_owing c n = let l = least c in omega arith

script_raises : (c : Script) (n : ℕ) → script_owed c (suc n) ≤ script_owed c n + script_pace c
script_raises c zero = let m = most c in omega arith
script_raises c (suc n) = grind arith

-- a step by a 0 brings the next answer one step nearer
nearer : (c d : Script) → d.bytes.items ≡ c.bytes.items → d.index ≡ index_after c → next_byte c ≡ 0 → suc (steps_to_answer (ahead d)) ≡ steps_to_answer (ahead c)
nearer c d same moved none =
    let first : ahead c ≡ 0 ∷ rest c = now c ∙ ap (λ b. b ∷ rest c) none in
    let some : all_zero (rest c) ≡ false = sym (ap all_zero first) ∙ answers_ahead c in
    ap (λ bs. suc (steps_to_answer bs)) (then c d same moved) ∙ ap suc (steps_front (rest c) (next_byte c ∷ []) some) ∙ sym (ap steps_to_answer first)

module _ (c d : Script) (same : d.bytes.items ≡ c.bytes.items) (moved : d.index ≡ index_after c) where
  -- after an answer a script at most is owed for the next
  again : (k : ℕ) → script_owed d k < script_owed c (suc k)
  again zero = let l = least c in omega arith
  again (suc j) =
      let l = least c in
      let m : steps_to_answer (ahead d) ≤ length c.bytes.items = rw (← same) (most d) in
      let e : length d.bytes.items ≡ length c.bytes.items = ap length same in
      rw e (grind (arith, l, m))

  script_lower : (n : ℕ) → Falls (script_owed c) (script_owed d) n (script_answers c n)
  script_lower n = go (next_byte c) refl n
    where
      go : (byte : ℕ) → next_byte c ≡ byte → (n : ℕ) → Falls (script_owed c) (script_owed d) n (answered_by byte n)
      go zero e zero = (omega arith, λ h. absurd (omega arith))
      go zero e (suc m) =
          let long : length d.bytes.items ≡ length c.bytes.items = ap length same in
          let less = nearer c d same moved e in
          (rw long (omega (arith, less)), λ h. rw long (omega (arith, less)))
      go (suc k) e zero = (omega arith, λ h. absurd (omega arith))
      go (suc k) e (suc m) = found_at (ltb k (suc m)) refl
        where
          lower : (j : ℕ) → suc j ≡ suc m → script_owed d j < script_owed c (suc m)
          lower j e = let z : j ≡ m = omega arith in rw z (again m)

          found_at : (b : Bool) → ltb k (suc m) ≡ b → Falls (script_owed c) (script_owed d) (suc m) (cond b (Some k) (Some m))
          found_at true t = (ltb-true k (suc m) t, lower)
          found_at false t = (omega arith, lower)

script_falls : (c d : Script) (n : ℕ) → ScriptSteps c d → (script_pace d ≡ script_pace c) × Falls (script_owed c) (script_owed d) n (script_answers c n)
script_falls c d n h = (ap length h.0, script_lower c d h.0 h.1 n)

pub script_paced : Paced script_owed script_pace script_answers (λ c n d. ScriptSteps c d)
script_paced = record { paced = script_pace_is_some; owing = script_owing; raises = script_raises; falls = script_falls }

-- a step of a level in which nothing is to be done
use Rattle.std.proofs.Common.{◌≡◌, refl, sym, subst, ℕ, true, ◌==◌, ◌&&◌, List, [], length, replicate, Some, None, Option}
use Rattle.std.proofs.lemmas.Bool.{and_parts, eqb-true}
use Rattle.std.proofs.lemmas.List.{nil_from_length}
use Rattle.line.specs.Size.{line_size}
use Rattle.memory.specs.declared.memory.Memory as memory
use Rattle.memory.specs.declared.replies.Answer.{Answer}
use Rattle.replacement.specs.declared.geometry.Geometry.{Geometry}
use Rattle.replacement.specs.declared.rule.Replacement as rule
use Rattle.level_model.specs.Moves.{Steps, SendsBy, Sends, WritesBack, RuleFilled}
use Rattle.level_model.specs.Steps.{arrival, fetch, oldest_queued, received}
use Rattle.level_model.specs.Tables.{at_rest}
use Rattle.level_model.specs.declared.tables.Tables.{Tables}

-- then all lists are empty
nothing_held : (t : Tables) → at_rest t ≡ true → (t.ready.items ≡ []) × (t.registers.items ≡ []) × (t.queue.items ≡ [])
nothing_held t rest =
    let all = and_parts ((length t.ready.items == 0) && (length t.registers.items == 0)) (length t.queue.items == 0) rest in
    let two = and_parts (length t.ready.items == 0) (length t.registers.items == 0) all.0 in
    (empty t.ready.items two.0, empty t.registers.items two.1, empty t.queue.items all.1)
  where
    empty : {X : Type 0} (xs : List X) → (length xs == 0) ≡ true → xs ≡ []
    empty xs none = nil_from_length xs (eqb-true (length xs) 0 none)

-- no answer ends a register, no line is to be read, and none to be written
no_arrival : (g : Geometry) (t : Tables) (got : Option Answer) → t.registers.items ≡ [] → arrival g t got ≡ None
no_arrival g t None none = refl
no_arrival g t (Some answer) none = rw none refl

no_fetch : (g : Geometry) (order : ℕ → List ℕ) (t : Tables) → t.registers.items ≡ [] → fetch g order t ≡ None
no_fetch g order t none = rw none refl

none_queued : (t : Tables) → t.queue.items ≡ [] → oldest_queued t ≡ None
none_queued t none = rw none refl

module _ {S Q : Type 0} (calls : memory.Ghosts S) (rk : rule.Ghosts Q) where
  -- so the memory below makes its step, and no more happens
  pub rest_steps : (b d : S) (t : Tables) (p : Q) (got : Option Answer) (bytes before : List ℕ) → at_rest t ≡ true → calls.steps b (replicate line_size 0) got d bytes → Steps rk calls b t p before None d t p before
  rest_steps b d t p got bytes before rest stepped =
      let held = nothing_held t rest in
      let no_one = no_arrival (rk.geometry p) t got held.1 in
      let writes : WritesBack calls (oldest_queued t) d t d t = subst (λ q. WritesBack calls q d t d t) (sym (none_queued t held.2)) (refl, refl) in
      let sends : SendsBy calls (fetch (rk.geometry p) (rk.order p) t) d t d t = subst (λ f. SendsBy calls f d t d t) (sym (no_fetch (rk.geometry p) (rk.order p) t held.1)) writes in (
        None,
        t,
        d,
        got,
        bytes,
        ((held.0, held.0), refl),
        stepped,
        subst (λ a. RuleFilled rk a p p) (sym no_one) refl,
        subst (λ a. Sends calls rk p d (received a bytes t) d t) (sym no_one) sends,
        (refl, refl),
      )

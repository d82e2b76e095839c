-- what is due to targets, and the bytes that they leave
use Rattle.std.proofs.Common.{◌≡◌, ◌≢◌, ℕ, suc, ◌<◌, ◌≤◌, Bool, true, false, cond, ◌||◌, eqb, List, [], ◌∷◌, ◌++◌, length, get_or, is_some, Some, None, Option, sym, refl, ap, ◌∙◌, arith, eq-eqb}
use Rattle.std.proofs.lemmas.Bool.Decides.{nat_tests}
use Rattle.std.proofs.lemmas.Grind.{same_number_lists}
use Rattle.std.proofs.lemmas.List.{append_assoc, length-append}
use Rattle.std.specs.List.{list_any}
use Rattle.line.proofs.Lines.{length-laid, get_or-laid}
use Rattle.line.proofs.Masks.{value_mask_bits}
use Rattle.line.specs.Laid.{laid}
use Rattle.line.specs.Values.{covers}
use Rattle.list.specs.Keyed.{entry_of}
use Rattle.memory.specs.Meaning.{Facts}
use Rattle.memory.specs.declared.replies.Fault.{Fault}
use Rattle.replacement.specs.declared.geometry.Geometry.{Geometry}
use Rattle.list.proofs.Entries.{none_some, not_first, append_none}
use Rattle.level_model.specs.Facts.{base, dues_of, open_of, due_in}
use Rattle.level_model.specs.Registers.{ticket_of, target_ticket, register_line, reply_to, bytes_asked, condition_asked, dues, bytes_after, condition_after}
use Rattle.level_model.specs.Tables.{target_count, open_count, is_open}
use Rattle.level_model.specs.declared.registers.Ask.{Ask}
use Rattle.level_model.specs.declared.registers.Ask.TheVariants.{Read, Write}
use Rattle.level_model.specs.declared.registers.Ready.{Ready}
use Rattle.level_model.specs.declared.registers.Register.{Register}
use Rattle.level_model.specs.declared.registers.Target.{Target}
use Rattle.level_model.specs.declared.tables.Tables.{Tables}
use Rattle.level_model.specs.declared.ways.Condition.TheVariants.{Clean, Dirty}

covered : (k : ℕ) → k < 16 → covers 0 16 k ≡ true
covered k h = grind (arith, nat_tests)

-- a line written with all bits of the mask is what was written
pub full_laid : (c new : List ℕ) → length c ≡ 16 → length new ≡ 16 → laid c 65535 new ≡ new
full_laid c new lc ln = same_number_lists (laid c 65535 new) new (length-laid c 65535 new ∙ lc ∙ sym ln) (λ k h. at k (omega (arith, length-laid c 65535 new)))
  where
    at : (k : ℕ) → k < 16 → get_or (laid c 65535 new) k 0 ≡ get_or new k 0
    at k h = get_or-laid c 65535 new k (omega arith) ∙ (rw (value_mask_bits 0 16 k ∙ covered k h) refl)

-- what is asked of a line leaves it as long as it was
pub length_bytes_asked : (fault : Option Fault) (bytes : List ℕ) (ask : Ask) → length (bytes_asked fault bytes ask) ≡ length bytes
length_bytes_asked fault bytes Read = refl
length_bytes_asked None bytes (Write mask new) = length-laid bytes mask new
length_bytes_asked (Some fault) bytes (Write mask new) = refl

-- and so do targets
pub length_bytes_after : (fault : Option Fault) (bytes : List ℕ) (xs : List Target) → length (bytes_after fault bytes xs) ≡ length bytes
length_bytes_after fault bytes [] = refl
length_bytes_after fault bytes (x ∷ xs) = length_bytes_after fault (bytes_asked fault bytes x.ask) xs ∙ length_bytes_asked fault bytes x.ask

-- an answer is due to each target
pub length_dues : (fault : Option Fault) (bytes : List ℕ) (xs : List Target) → length (dues fault bytes xs) ≡ length xs
length_dues fault bytes [] = refl
length_dues fault bytes (x ∷ xs) = ap (λ n. suc n) (length_dues fault (bytes_asked fault bytes x.ask) xs)

-- a target behind the others gets what the line holds after them
pub dues_push : (fault : Option Fault) (bytes : List ℕ) (xs : List Target) (x : Target) → dues fault bytes (xs ++ (x ∷ [])) ≡ dues fault bytes xs ++ (record { ticket = x.ticket; reply = reply_to fault (bytes_after fault bytes xs) x.ask } ∷ [])
dues_push fault bytes [] x = refl
dues_push fault bytes (y ∷ ys) x = ap (λ zs. record { ticket = y.ticket; reply = reply_to fault bytes y.ask } ∷ zs) (dues_push fault (bytes_asked fault bytes y.ask) ys x)

-- and leaves these bytes
pub bytes_push : (fault : Option Fault) (bytes : List ℕ) (xs : List Target) (x : Target) → bytes_after fault bytes (xs ++ (x ∷ [])) ≡ bytes_asked fault (bytes_after fault bytes xs) x.ask
bytes_push fault bytes [] x = refl
bytes_push fault bytes (y ∷ ys) x = bytes_push fault (bytes_asked fault bytes y.ask) ys x

dues_step : (k : ℕ) (x : Target) (b : Bool) (t : Option Target) (r : Ready) (s : Option Ready) → cond b (Some x) t ≡ None → (t ≡ None → s ≡ None) → cond b (Some r) s ≡ None
dues_step k x true t r s e h = absurd (none_some x (sym e))
dues_step k x false t r s e h = h e

-- a ticket that no target has is in no due
pub dues_none : (k : ℕ) (fault : Option Fault) (bytes : List ℕ) (xs : List Target) → entry_of target_ticket k xs ≡ None → entry_of ticket_of k (dues fault bytes xs) ≡ None
dues_none k fault bytes [] e = refl
dues_none k fault bytes (x ∷ xs) e = dues_step k x (eqb x.ticket k) (entry_of target_ticket k xs) (record { ticket = x.ticket; reply = reply_to fault bytes x.ask }) (entry_of ticket_of k (dues fault (bytes_asked fault bytes x.ask) xs)) e (dues_none k fault (bytes_asked fault bytes x.ask) xs)

-- a line with a fault keeps its bytes
pub bytes_bad : (fault : Fault) (bytes : List ℕ) (xs : List Target) → bytes_after (Some fault) bytes xs ≡ bytes
bytes_bad fault bytes [] = refl
bytes_bad fault bytes (x ∷ xs) = bytes_bad fault (bytes_asked (Some fault) bytes x.ask) xs ∙ same x.ask
  where
    same : (ask : Ask) → bytes_asked (Some fault) bytes ask ≡ bytes
    same Read = refl
    same (Write mask new) = refl

-- a fault is the same whatever the bytes
pub dues_bad : (fault : Fault) (bytes other : List ℕ) (xs : List Target) → dues (Some fault) bytes xs ≡ dues (Some fault) other xs
dues_bad fault bytes other [] = refl
dues_bad fault bytes other (x ∷ xs) = go x.ask (dues_bad fault bytes other xs)
  where
    go : (ask : Ask) → dues (Some fault) bytes xs ≡ dues (Some fault) other xs → record { ticket = x.ticket; reply = reply_to (Some fault) bytes ask } ∷ dues (Some fault) (bytes_asked (Some fault) bytes ask) xs ≡ record { ticket = x.ticket; reply = reply_to (Some fault) other ask } ∷ dues (Some fault) (bytes_asked (Some fault) other ask) xs
    go Read h = ap (λ ys. record { ticket = x.ticket; reply = reply_to (Some fault) bytes Read } ∷ ys) h
    go (Write mask new) h = ap (λ ys. record { ticket = x.ticket; reply = reply_to (Some fault) bytes (Write mask new) } ∷ ys) h

-- a line that was written stays written
dirty_stays : (xs : List Target) → condition_after Dirty xs ≡ Dirty
dirty_stays [] = refl
dirty_stays (x ∷ xs) = ap (λ condition. condition_after condition xs) (still x.ask) ∙ dirty_stays xs
  where
    still : (ask : Ask) → condition_asked Dirty ask ≡ Dirty
    still Read = refl
    still (Write mask new) = refl

-- targets that leave a line clean leave its bytes: none of them writes
pub clean_bytes : (xs : List Target) (bytes : List ℕ) → condition_after Clean xs ≡ Clean → bytes_after None bytes xs ≡ bytes
clean_bytes [] bytes e = refl
clean_bytes (x ∷ xs) bytes e = go x.ask e (clean_bytes xs bytes)
  where
    go : (ask : Ask) → condition_after (condition_asked Clean ask) xs ≡ Clean → (condition_after Clean xs ≡ Clean → bytes_after None bytes xs ≡ bytes) → bytes_after None (bytes_asked None bytes ask) xs ≡ bytes
    go Read h rest = rest h
    go (Write mask new) h rest = absurd (let y : Dirty ≡ Clean = sym (dirty_stays xs) ∙ h in let z : ◌≡◌ {A = ℕ} 0 1 = cc in omega arith)

-- what is due to two parts of registers
pub dues_of_append : (bad : ℕ → Option Fault) (bytes : ℕ → List ℕ) (xs ys : List Register) → dues_of bad bytes (xs ++ ys) ≡ dues_of bad bytes xs ++ dues_of bad bytes ys
dues_of_append bad bytes [] ys = refl
dues_of_append bad bytes (x ∷ xs) ys =
    let here : List Ready = dues (bad x.line) (bytes x.line) x.targets.items in
    ap (λ zs. here ++ zs) (dues_of_append bad bytes xs ys) ∙ sym (append_assoc here (dues_of bad bytes xs) (dues_of bad bytes ys))

module _ (bad worse : ℕ → Option Fault) (bytes other : ℕ → List ℕ) where
  -- the same is due to registers none of which is for a line, where only that line's bytes differ
  pub dues_of_but : (k : ℕ) (rs : List Register) → entry_of register_line k rs ≡ None → ((j : ℕ) → j ≢ k → other j ≡ bytes j) → ((j : ℕ) → worse j ≡ bad j) → dues_of worse other rs ≡ dues_of bad bytes rs
  dues_of_but k [] e same alike = refl
  dues_of_but k (r ∷ rs) e same alike =
      let n = not_first register_line r k (eqb r.line k) (entry_of register_line k rs) refl e in
      ap (λ zs. dues (worse r.line) (other r.line) r.targets.items ++ zs) (dues_of_but k rs n.1 same alike)
      ∙ ap (λ fault. dues fault (other r.line) r.targets.items ++ dues_of bad bytes rs) (alike r.line)
      ∙ ap (λ c. dues (bad r.line) c r.targets.items ++ dues_of bad bytes rs) (same r.line n.0)

  -- and where no bytes differ
  pub dues_of_same : ((j : ℕ) → other j ≡ bytes j) → ((j : ℕ) → worse j ≡ bad j) → (rs : List Register) → dues_of worse other rs ≡ dues_of bad bytes rs
  dues_of_same same alike [] = refl
  dues_of_same same alike (r ∷ rs) =
      ap (λ zs. dues (worse r.line) (other r.line) r.targets.items ++ zs) (dues_of_same same alike rs)
      ∙ ap (λ fault. dues fault (other r.line) r.targets.items ++ dues_of bad bytes rs) (alike r.line)
      ∙ ap (λ c. dues (bad r.line) c r.targets.items ++ dues_of bad bytes rs) (same r.line)

-- an answer is due to each target of all registers
pub length_dues_of : (bad : ℕ → Option Fault) (bytes : ℕ → List ℕ) (rs : List Register) → length (dues_of bad bytes rs) ≡ target_count rs
length_dues_of bad bytes [] = refl
length_dues_of bad bytes (r ∷ rs) =
    let all = length-append (dues (bad r.line) (bytes r.line) r.targets.items) (dues_of bad bytes rs) in
    let here = length_dues (bad r.line) (bytes r.line) r.targets.items in
    let rest = length_dues_of bad bytes rs in
    omega arith

-- as much is open as is counted
pub length_open : (f : Facts) (g : Geometry) (t : Tables) → length (open_of f g t) ≡ open_count t
length_open f g t =
    let all = length-append t.ready.items (dues_of f.bad (base f g t) t.registers.items) in
    let rest = length_dues_of f.bad (base f g t) t.registers.items in
    omega arith

is_none : {X : Type 0} (r : Option X) → is_some r ≡ false → r ≡ None
is_none None e = refl
is_none (Some x) e = absurd (let z : ◌≡◌ {A = ℕ} 0 1 = cc in omega arith)

neither : (a b : Bool) → (a || b) ≡ false → (a ≡ false) × (b ≡ false)
neither true b e = absurd (let z : ◌≡◌ {A = ℕ} 0 1 = cc in omega arith)
neither false b e = (refl, e)

dues_of_none : (k : ℕ) (bad : ℕ → Option Fault) (bytes : ℕ → List ℕ) (rs : List Register) → list_any (λ (r : Register). is_some (entry_of target_ticket k r.targets.items)) rs ≡ false → entry_of ticket_of k (dues_of bad bytes rs) ≡ None
dues_of_none k bad bytes [] e = refl
dues_of_none k bad bytes (r ∷ rs) e =
    let n = neither (is_some (entry_of target_ticket k r.targets.items)) (list_any (λ (r : Register). is_some (entry_of target_ticket k r.targets.items)) rs) e in
    append_none ticket_of k (dues (bad r.line) (bytes r.line) r.targets.items) (dues_of bad bytes rs)
    (dues_none k (bad r.line) (bytes r.line) r.targets.items (is_none (entry_of target_ticket k r.targets.items) n.0))
    (dues_of_none k bad bytes rs n.1)

-- nothing is due to a ticket that is not open
pub not_open : (f : Facts) (g : Geometry) (t : Tables) (ticket : ℕ) → is_open t ticket ≡ false → entry_of ticket_of ticket (open_of f g t) ≡ None
not_open f g t ticket e =
    let n = neither (is_some (entry_of ticket_of ticket t.ready.items)) (list_any (λ (r : Register). is_some (entry_of target_ticket ticket r.targets.items)) t.registers.items) e in
    append_none ticket_of ticket t.ready.items (dues_of f.bad (base f g t) t.registers.items)
    (is_none (entry_of ticket_of ticket t.ready.items) n.0)
    (dues_of_none ticket f.bad (base f g t) t.registers.items n.1)

-- where something is due, it is to some ticket
pub some_open : (xs : List Ready) → 1 ≤ length xs → (u : ℕ) × (is_some (due_in xs u) ≡ true)
some_open [] h = absurd (omega arith)
some_open (x ∷ xs) h = (x.ticket, rw (eq-eqb x.ticket x.ticket refl) refl)

-- and the other way round
pub open_some : (xs : List Ready) (u : ℕ) → is_some (due_in xs u) ≡ true → 1 ≤ length xs
open_some [] u e = absurd (let z : ◌≡◌ {A = ℕ} 0 1 = cc in omega arith)
open_some (x ∷ xs) u e = omega arith

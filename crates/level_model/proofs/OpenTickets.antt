-- with fewer than 16 requests open some ticket is not open
use Rattle.std.proofs.Common.{◌≡◌, ℕ, ◌<◌, Bool, true, false, cond, eqb, leb, List, [], ◌∷◌, ◌++◌, length, map, is_some, Some, None, Option, ◌||◌, refl, ap, ◌∙◌, arith}
use Rattle.std.proofs.lemmas.Bool.Decides.{nat_tests}
use Rattle.std.proofs.lemmas.List.{length-append, length-map}
use Rattle.std.proofs.lemmas.List.Folds.{find-append}
use Rattle.std.specs.List.{list_any}
use Rattle.std.specs.Option.{option_or}
use Rattle.list.proofs.Distinct.{as_many}
use Rattle.list.specs.Keyed.{entry_of}
use Rattle.memory.specs.Tickets.{AllOpenBelow, ticket_count}
use Rattle.level_model.specs.Limits.{most_open}
use Rattle.level_model.specs.Registers.{ticket_of, target_ticket}
use Rattle.level_model.specs.Tables.{is_open, open_count, target_count, path, path_at, register_path}
use Rattle.level_model.specs.Ways.{holding, row}
use Rattle.level_model.specs.declared.registers.Register.{Register}
use Rattle.level_model.specs.declared.tables.Path.{Path}
use Rattle.level_model.specs.declared.tables.Tables.{Tables}

abbrev same : ℕ → ℕ
same n = n

-- the tickets of all targets
abbrev target_tickets : List Register → List ℕ
target_tickets [] = []
target_tickets (r ∷ rs) = map target_ticket r.targets.items ++ target_tickets rs

-- all tickets that are open
abbrev tickets : Tables → List ℕ
tickets t = map ticket_of t.ready.items ++ target_tickets t.registers.items

target_tickets_long : (rs : List Register) → length (target_tickets rs) ≡ target_count rs
target_tickets_long [] = refl
target_tickets_long (r ∷ rs) = length-append (map target_ticket r.targets.items) (target_tickets rs) ∙ (rw (length-map r.targets.items target_ticket, target_tickets_long rs) refl)

tickets_long : (t : Tables) → length (tickets t) ≡ open_count t
tickets_long t = length-append (map ticket_of t.ready.items) (target_tickets t.registers.items) ∙ (rw (length-map t.ready.items ticket_of, target_tickets_long t.registers.items) refl)

map_step : {X : Type 0} (x : X) (n : ℕ) (b : Bool) (o : Option X) (p : Option ℕ) → is_some p ≡ is_some o → is_some (cond b (Some n) p) ≡ is_some (cond b (Some x) o)
map_step x n true o p h = refl
map_step x n false o p h = h

-- a key is found among keys where an entry with it is found
in_map : {X : Type 0} (key : X → ℕ) (k : ℕ) (xs : List X) → is_some (entry_of same k (map key xs)) ≡ is_some (entry_of key k xs)
in_map key k [] = refl
in_map key k (x ∷ xs) = map_step x (key x) (eqb (key x) k) (entry_of key k xs) (entry_of same k (map key xs)) (in_map key k xs)

either : (o p : Option ℕ) → is_some (option_or o p) ≡ (is_some o || is_some p)
either None p = refl
either (Some n) p = refl

-- among the keys of two lists one is found where it is in either
in_both : (k : ℕ) (xs ys : List ℕ) → is_some (entry_of same k (xs ++ ys)) ≡ (is_some (entry_of same k xs) || is_some (entry_of same k ys))
in_both k xs ys = ap is_some (find-append (λ x. eqb (same x) k) xs ys) ∙ either (entry_of same k xs) (entry_of same k ys)

in_targets : (k : ℕ) (rs : List Register) → is_some (entry_of same k (target_tickets rs)) ≡ list_any (λ (r : Register). is_some (entry_of target_ticket k r.targets.items)) rs
in_targets k [] = refl
in_targets k (r ∷ rs) = in_both k (map target_ticket r.targets.items) (target_tickets rs) ∙ (rw (in_map target_ticket k r.targets.items, in_targets k rs) refl)

in_tickets : (t : Tables) (k : ℕ) → is_some (entry_of same k (tickets t)) ≡ is_open t k
in_tickets t k = in_both k (map ticket_of t.ready.items) (target_tickets t.registers.items) ∙ (rw (in_map ticket_of k t.ready.items, in_targets k t.registers.items) refl)

-- with fewer than 16 requests open not all tickets are
pub some_unopened : (t : Tables) → open_count t < most_open → AllOpenBelow (is_open t) ticket_count → ⊥
some_unopened t few all =
    let many = as_many same 16 (tickets t) (λ k l. in_tickets t k ∙ all k (omega arith)) in
    omega (arith, tickets_long t)

-- a request that there is room for finds fewer than 16 open
pub room_open : (t : Tables) (set line : ℕ) (p : Path) → path t set line ≡ Some p → open_count t < most_open
room_open t set line p room = go (leb most_open (open_count t)) refl room
  where
    go : (b : Bool) → leb most_open (open_count t) ≡ b → cond b None (path_at (holding line (row t.ways set)) (register_path t line)) ≡ Some p → open_count t < most_open
    go true e n = absurd (let z : ◌≡◌ {A = ℕ} 0 1 = cc in omega arith)
    go false e n = grind (arith, nat_tests)

-- how far a run of calls has come
use Rattle.std.proofs.Common.{◌≡◌, ℕ, suc, ◌+◌, ◌<◌, ◌≤◌, List, [], ◌∷◌, ◌++◌, map, reverse, length, take, drop, get_or, set, Some, refl, sym, ap, ◌∙◌, arith, add-one, append_assoc, drop-cons}
use Rattle.std.proofs.Math.ListN.{drop_of_length-le}
use Rattle.std.proofs.Math.Seq.{set-append_seam, get_or-append_seam}
use Rattle.std.proofs.lemmas.List.{append-nil, length-map, length-take-le, map-append, reverse-append, map_more, take_all}
use Rattle.memory.specs.Gather.{facts}
use Rattle.memory.specs.Laws.{Laws}
use Rattle.memory.specs.declared.memory.Memory.{Ghosts}
use Rattle.memory.specs.declared.state.State as state
use Rattle.port.specs.Events.{call_of}
use Rattle.port.specs.Numbers.{new_numbers}
use Rattle.port.proofs.Calls.{keeps}
use Rattle.port.specs.Moves.{Runs}
use Rattle.port.specs.Port.{port_below, port_numbers, CameBy, PortMoves}
use Rattle.port.specs.Run.{entry_call, made, Ran}
use Rattle.port.specs.declared.event.Event.{Event}
use Rattle.port.specs.declared.port.Port.{Port}
use Rattle.port.specs.declared.run.Entry.{Entry}

-- the events of the calls of the first entries stand beside them, and the other entries are as they were
pub record Beside (before : List Entry) (events : List Event) (i : ℕ) (now : List Entry) : Type 0 where
  pub calls : map call_of events ≡ map entry_call (take i before)
  pub beside : now ≡ map made events ++ drop i before

-- so many entries have an event beside them
beside_count : {before now : List Entry} {events : List Event} {i : ℕ} → i ≤ length before → Beside before events i now → length (map made events) ≡ i
beside_count {before} {now} {events} {i} within b =
    length-map events made ∙ sym (length-map events call_of) ∙ ap length b.calls ∙ length-map (take i before) entry_call ∙ length-take-le i before within

-- and the next is as it was
beside_next : {before now : List Entry} {events : List Event} (i : ℕ) (d : Entry) → i < length before → Beside before events i now → get_or now i d ≡ get_or before i d
beside_next {before} {now} {events} i d within b =
    let count : length (map made events) ≡ i = beside_count (omega arith) b in
    ap (λ xs. get_or xs i d) (b.beside ∙ ap (λ xs. map made events ++ xs) (drop-cons before i d within))
    ∙ ap (λ n. get_or (map made events ++ get_or before i d ∷ drop (suc i) before) n d) (sym count)
    ∙ get_or-append_seam (map made events) (get_or before i d) (drop (suc i) before) d

-- an event that is written beside its call
beside_more : {before now : List Entry} {events : List Event} (i : ℕ) (d : Entry) (e : Event) → i < length before → Beside before events i now → call_of e ≡ (get_or now i d).call → Beside before (events ++ (e ∷ [])) (i + 1) (set now i (record { call = (get_or now i d).call; event = Some e }))
beside_more {before} {now} {events} i d e within b its =
    let count : length (map made events) ≡ i = beside_count (omega arith) b in
    let next : get_or now i d ≡ get_or before i d = beside_next i d within b in
    let x : Entry = record { call = (get_or now i d).call; event = Some e } in
    let written : x ≡ made e = ap (λ c. let y : Entry = record { call = c; event = Some e } in y) (sym its) in
    record {
      calls = map-append call_of events (e ∷ []) ∙ ap (λ c. map call_of events ++ c ∷ []) (its ∙ ap entry_call next) ∙ ap (λ xs. xs ++ entry_call (get_or before i d) ∷ []) b.calls ∙ sym (map_more entry_call before i d within);
      beside =
          ap (λ xs. set xs i x) (b.beside ∙ ap (λ xs. map made events ++ xs) (drop-cons before i d within))
          ∙ ap (λ n. set (map made events ++ get_or before i d ∷ drop (suc i) before) n x) (sym count)
          ∙ set-append_seam (map made events) (get_or before i d) (drop (suc i) before) x
          ∙ ap (λ y. map made events ++ y ∷ drop (suc i) before) written
          ∙ ap (λ n. map made events ++ made e ∷ drop n before) (sym (add-one i))
          ∙ sym (append_assoc (map made events) (made e ∷ []) (drop (i + 1) before))
          ∙ ap (λ xs. xs ++ drop (i + 1) before) (sym (map-append made events (e ∷ [])));
    }

module _ {S : Type 0} (st : state.Ghosts S) (k : Ghosts S) where
  -- a run that has made the calls of the first entries
  pub record Going (b : S) (ration : ℕ) (before : List Entry) (i : ℕ) (now : List Entry) (p : Port S) : Type 0 where
    pub events : List Event
    pub written : Beside before events i now
    pub runs : Runs st k b (new_numbers ration) (reverse events) (port_below p) (port_numbers p)

  -- a run that has made none
  pub begins : (b : S) (ration : ℕ) (before : List Entry) (p : Port S) → CameBy st k b ration [] p → Going b ration before 0 before p
  begins b ration before p new = record { events = []; written = record { calls = refl; beside = refl }; runs = new }

  -- one call more
  pub goes_on : {b : S} {ration : ℕ} {before now : List Entry} {i : ℕ} {p : Port S} (d : Entry) (e : Event) (q : Port S) → i < length before → Going b ration before i now p → call_of e ≡ (get_or now i d).call → PortMoves st k e p q → Going b ration before (i + 1) (set now i (record { call = (get_or now i d).call; event = Some e })) q
  goes_on {b} {ration} {before} {now} {i} {p} d e q within g its moves =
      let last : reverse (g.events ++ (e ∷ [])) ≡ e ∷ reverse g.events = reverse-append g.events (e ∷ []) in
      record {
        events = g.events ++ (e ∷ []);
        written = beside_more i d e within g.written its;
        runs = rw last (port_below p, port_numbers p, g.runs, moves);
      }

  -- a run that has made all
  pub ends : (laws : Laws (facts st) k.reads k.writes k.steps) {b : S} {ration : ℕ} {before now : List Entry} {i : ℕ} {p : Port S} → length before ≤ i → Going b ration before i now p → Ran st k b ration before now (port_below p)
  ends laws {b} {ration} {before} {now} {i} {p} all g = record {
    events = g.events;
    recorded = (g.written.calls ∙ ap (map entry_call) (take_all i before all), g.written.beside ∙ ap (λ xs. map made g.events ++ xs) (drop_of_length-le before all) ∙ append-nil (map made g.events));
    numbers = port_numbers p;
    runs = g.runs;
    promise = λ idle. keeps st k laws b ration idle (reverse g.events) (port_below p) (port_numbers p) g.runs;
  }

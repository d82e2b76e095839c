-- the front of a trace that was copied so far, and one record more
use Rattle.std.proofs.Common.{◌≡◌, ℕ, ◌+◌, ◌-◌, ◌≤◌, List, [], ◌∷◌, ◌++◌, length, take, drop, Ok, Err, sym, refl, ap, ◌∙◌, subst, arith}
use Rattle.std.proofs.lemmas.List.{append_assoc, drop_at, drop-drop, flat_map_more, length-append, length-drop, length-take-le, take_all, take_at}
use Rattle.std.specs.List.{flat_map}
use Rattle.trace.specs.declared.refusal.Refused.{Refused}
use Rattle.trace.specs.Copied.{up_to, Stopped, Copied}
use Rattle.trace.specs.Encode.{encode}
use Rattle.trace.specs.Items.{Item}
use Rattle.trace.specs.Reading.{ended, gave, reading}
use Rattle.trace.specs.ReadUpTo.{ReadUpTo, start, further}
use Rattle.trace.specs.Writing.{buffer_after}
use Rattle.trace.proofs.NumberSpelled.{Bytes}
use Rattle.trace.proofs.Runs.{ends_at, read_whole}

pub record Front (trace : List ℕ) (at : ℕ) (before after : List ℕ) : Type 0 where
  pub items : List Item
  pub read : ReadUpTo trace at items
  pub joins : flat_map encode items ≡ take at trace
  pub copied : after ≡ up_to trace at before
  pub len : length after ≡ length before

pub front_start : (trace before : List ℕ) → Front trace 0 before before
front_start trace before = record { items = []; read = start; joins = refl; copied = refl; len = refl }

-- the whole trace was copied
pub front_done : (trace : List ℕ) (at : ℕ) (before after : List ℕ) → Bytes trace → Front trace at before after → reading trace at ≡ ended → at ≡ length trace → Copied trace before after (Ok tt)
front_done trace at before after bytes f e l =
    let all : take at trace ≡ trace = ap (λ k. take k trace) l ∙ take_all (length trace) trace (omega arith) in (
      f.items,
      read_whole trace bytes f.read e l,
      f.joins ∙ all,
      f.copied ∙ ap (λ xs. xs ++ drop at before) all ∙ ap (λ k. trace ++ drop k before) l,
    )

-- copying stops behind the front
pub front_stopped : (trace : List ℕ) (at : ℕ) (before after : List ℕ) (e : Refused) → Front trace at before after → e.offset ≡ at → Stopped trace at e.refusal (length after) → Copied trace before after (Err e)
front_stopped trace at before after e f o s =
    let g = subst (λ k. Front trace k before after) (sym o) f in
    let t = subst (λ k. Stopped trace k e.refusal (length after)) (sym o) s in (g.items, g.read, g.joins, g.copied, subst (Stopped trace e.offset e.refusal) g.len t)

module _ (trace : List ℕ) (at to : ℕ) (item : Item) (before mid after : List ℕ) where
  pub front_further : Front trace at before mid → at ≤ length trace → reading trace at ≡ gave item to → to ≤ length trace → take to trace ≡ take at trace ++ encode item → at + length (encode item) ≤ length mid → after ≡ buffer_after (Ok tt) at (encode item) mid → Front trace to before after
  front_further f l e u t fits put =
      let es : List ℕ = encode item in
      let ts : List ℕ = take at trace in
      let n : length ts ≡ at = length-take-le at trace l in
      let m : to ≡ at + length es = ends_at trace es at to l u t in
      let kept : take at mid ≡ ts = ap (take at) f.copied ∙ take_at ts (drop at before) at n in
      let left : drop at mid ≡ drop at before = ap (drop at) f.copied ∙ drop_at ts (drop at before) at n in
      let behind : drop (at + length es) mid ≡ drop to before =
      sym (drop-drop (length es) at mid) ∙ ap (drop (length es)) left ∙ drop-drop (length es) at before ∙ ap (λ k. drop k before) (sym m) in
      let copied : after ≡ take to trace ++ drop to before =
      put
      ∙ ap (λ xs. xs ++ (es ++ drop (at + length es) mid)) kept
      ∙ ap (λ xs. ts ++ (es ++ xs)) behind
      ∙ sym (append_assoc ts es (drop to before))
      ∙ ap (λ xs. xs ++ drop to before) (sym t) in
      let l1 : length (take to trace) ≡ to = length-take-le to trace u in
      let l2 : length (drop to before) ≡ length before - to = length-drop to before in
      let l3 : length after ≡ length (take to trace) + length (drop to before) = ap length copied ∙ length-append (take to trace) (drop to before) in
      record {
        items = f.items ++ (item ∷ []);
        read = further f.read e;
        joins = sym (flat_map_more encode [] f.items item) ∙ ap (λ xs. xs ++ es) f.joins ∙ sym t;
        copied = copied;
        len = omega (arith, l1, l2, l3, f.len, fits, m);
      }

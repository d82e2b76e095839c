-- bytes that are put into a buffer one part behind the other
use Rattle.std.proofs.Common.{◌≡◌, ℕ, ◌+◌, ◌≤◌, List, ◌++◌, length, take, drop, sym, ap, ◌∙◌, arith}
use Rattle.std.proofs.lemmas.List.{append_assoc, drop-drop, drop_at, take_at, length-append, length-take-le}

-- a buffer with bytes put behind so many
abbrev pub buffer_with : ℕ → List ℕ → List ℕ → List ℕ
buffer_with written bytes buffer = take written buffer ++ (bytes ++ drop (written + length bytes) buffer)

-- one part behind the other is both parts at once
pub buffer_with-append : (n : ℕ) (a b buffer : List ℕ) → n + length a ≤ length buffer → buffer_with (n + length a) b (buffer_with n a buffer) ≡ buffer_with n (a ++ b) buffer
buffer_with-append n a b buffer h =
    let front : List ℕ = take n buffer ++ a in
    let rest : List ℕ = drop (n + length a) buffer in
    let after : List ℕ = buffer_with n a buffer in
    let long : length front ≡ n + length a = length-append (take n buffer) a ∙ ap (λ k. k + length a) (length-take-le n buffer (omega arith)) in
    let split : after ≡ front ++ rest = sym (append_assoc (take n buffer) a rest) in
    let taken : take (n + length a) after ≡ front = ap (take (n + length a)) split ∙ take_at front rest (n + length a) long in
    let left : drop (n + length a) after ≡ rest = ap (drop (n + length a)) split ∙ drop_at front rest (n + length a) long in
    let further : n + length a + length b ≡ n + length (a ++ b) = omega (arith, length-append a b) in
    let behind : drop (n + length a + length b) after ≡ drop (n + length (a ++ b)) buffer =
    sym (drop-drop (length b) (n + length a) after)
    ∙ ap (drop (length b)) left
    ∙ drop-drop (length b) (n + length a) buffer
    ∙ ap (λ k. drop k buffer) further in
    ap (λ xs. xs ++ (b ++ drop (n + length a + length b) after)) taken
    ∙ ap (λ xs. front ++ (b ++ xs)) behind
    ∙ append_assoc (take n buffer) a (b ++ drop (n + length (a ++ b)) buffer)
    ∙ ap (λ xs. take n buffer ++ xs) (sym (append_assoc a b (drop (n + length (a ++ b)) buffer)))

-- the same of buffers and a count that are known by other names
pub put_behind : (n m : ℕ) (a b buffer mid new : List ℕ) → n + length a ≤ length buffer → m ≡ n + length a → mid ≡ buffer_with n a buffer → new ≡ buffer_with m b mid → new ≡ buffer_with n (a ++ b) buffer
put_behind n m a b buffer mid new h at first second =
    second
    ∙ ap (λ k. buffer_with k b mid) at
    ∙ ap (buffer_with (n + length a) b) first
    ∙ buffer_with-append n a b buffer h

-- bytes at the front
pub put_front : (a buffer new : List ℕ) → new ≡ buffer_with 0 a buffer → new ≡ a ++ drop (length a) buffer
put_front a buffer new e = let z : 0 + length a ≡ length a = omega arith in e ∙ ap (λ n. a ++ drop n buffer) z

-- the lines of an image of bytes, before and after a write
use Rattle.std.proofs.Common.{◌≡◌, ℕ, ◌+◌, ◌*◌, ◌<◌, ◌≤◌, Bool, true, false, ltb, List, ◌++◌, length, take, drop, sym, refl, ap, ◌∙◌, arith}
use Rattle.line.proofs.Lines.{length-laid}
use Rattle.line.specs.Image.{bytes_of, with_line, image_laid}
use Rattle.line.specs.Laid.{laid}
use Rattle.std.proofs.lemmas.List.{append_assoc, drop_at, take_at, drop-append-le, take-append-le, take-append-drop, length-append, length-take-le, length-drop, length-take}
use Rattle.std.proofs.lemmas.Slice.{drop-append-drop}
use Rattle.std.proofs.lemmas.Bool.{le-leb, ltb-true, ltb-false}

-- a line that an image holds has 16 bytes
pub whole_line : (bytes : List ℕ) (line : ℕ) → 16 * line + 16 ≤ length bytes → length (bytes_of bytes line) ≡ 16
whole_line bytes line h = grind (arith, length-take {A = ℕ}, length-drop {A = ℕ})

-- bytes that lie before an offset do not show what comes after it
before : (xs ys : List ℕ) (n : ℕ) → n + 16 ≤ length xs → take 16 (drop n (xs ++ ys)) ≡ take 16 (drop n xs)
before xs ys n h = ap (take 16) (drop-append-le n xs ys (omega arith)) ∙ take-append-le 16 (drop n xs) ys (simp length-drop (omega arith))

module _ (bytes part : List ℕ) (line : ℕ) (inside : 16 * line + 16 ≤ length bytes) (long : length part ≡ 16) where
  front : length (take (16 * line) bytes) ≡ 16 * line
  front = length-take-le (16 * line) bytes (omega arith)

  -- the line itself
  this_line : bytes_of (with_line bytes line part) line ≡ part
  this_line =
      ap (take 16) (drop_at (take (16 * line) bytes) (part ++ drop (16 * line + 16) bytes) (16 * line) front)
      ∙ take_at part (drop (16 * line + 16) bytes) 16 long

  -- a line before it
  lower_line : (k : ℕ) → k < line → bytes_of (with_line bytes line part) k ≡ bytes_of bytes k
  lower_line k h =
      let fits : 16 * k + 16 ≤ length (take (16 * line) bytes) = omega (arith, front) in
      before (take (16 * line) bytes) (part ++ drop (16 * line + 16) bytes) (16 * k) fits
      ∙ sym (before (take (16 * line) bytes) (drop (16 * line) bytes) (16 * k) fits)
      ∙ ap (λ bs. bytes_of bs k) (take-append-drop (16 * line) bytes)

  -- a line after it
  upper_line : (k : ℕ) → line < k → bytes_of (with_line bytes line part) k ≡ bytes_of bytes k
  upper_line k h =
      let both : length (take (16 * line) bytes ++ part) ≡ 16 * line + 16 = length-append (take (16 * line) bytes) part ∙ omega (arith, front, long) in
      ap (λ bs. bytes_of bs k) (sym (append_assoc (take (16 * line) bytes) part (drop (16 * line + 16) bytes)))
      ∙ ap (take 16) (drop-append-drop (16 * line + 16) bytes (take (16 * line) bytes ++ part) (16 * k) (omega arith) both)

  -- another line
  other_line : (k : ℕ) → (k ≡ line → ⊥) → bytes_of (with_line bytes line part) k ≡ bytes_of bytes k
  other_line k other = go (ltb k line) refl
    where
      go : (b : Bool) → ltb k line ≡ b → bytes_of (with_line bytes line part) k ≡ bytes_of bytes k
      go true t = lower_line k (ltb-true k line t)
      go false t = upper_line k (let n = ltb-false k line t in omega arith)

  length-with_line : length (with_line bytes line part) ≡ length bytes
  length-with_line =
      length-append (take (16 * line) bytes) (part ++ drop (16 * line + 16) bytes)
      ∙ simp (front, long, length-append, length-drop) (omega arith)

-- an image that new bytes were laid on
module _ (bytes : List ℕ) (line mask : ℕ) (new : List ℕ) (inside : 16 * line + 16 ≤ length bytes) where
  long : length (laid (bytes_of bytes line) mask new) ≡ 16
  long = length-laid (bytes_of bytes line) mask new ∙ whole_line bytes line inside

  image_is : image_laid bytes line mask new ≡ with_line bytes line (laid (bytes_of bytes line) mask new)
  image_is = rw (le-leb (16 * line + 16) (length bytes) inside) refl

  pub length-image_laid : length (image_laid bytes line mask new) ≡ length bytes
  length-image_laid = ap length image_is ∙ length-with_line bytes (laid (bytes_of bytes line) mask new) line inside long

  pub laid_line : bytes_of (image_laid bytes line mask new) line ≡ laid (bytes_of bytes line) mask new
  laid_line = ap (λ bs. bytes_of bs line) image_is ∙ this_line bytes (laid (bytes_of bytes line) mask new) line inside long

  pub unlaid_line : (k : ℕ) → (k ≡ line → ⊥) → bytes_of (image_laid bytes line mask new) k ≡ bytes_of bytes k
  unlaid_line k other = ap (λ bs. bytes_of bs k) image_is ∙ other_line bytes (laid (bytes_of bytes line) mask new) line inside long k other

-- the lines of an image after a write
use Rattle.std.proofs.Common.{◌≡◌, ℕ, ◌+◌, ◌*◌, ◌/◌, ◌<◌, ◌≤◌, Bool, true, false, cond, eqb, List, length, Some, None, Option, min, refl, ap, ◌∙◌, arith, eqb-true}
use Rattle.backing.specs.Image.{line_count, contents_of, fault_of, image_written}
use Rattle.backing.specs.declared.image.Image.{Image}
use Rattle.line.proofs.Images.{length-image_laid, laid_line, unlaid_line}
use Rattle.line.specs.Image.{bytes_of, image_laid}
use Rattle.line.specs.Laid.{laid}
use Rattle.memory.specs.Limits.{most_lines}
use Rattle.memory.specs.Replies.{written_on}
use Rattle.memory.specs.declared.replies.Fault.{Fault}
use Rattle.std.proofs.lemmas.Bool.{eqb-false, lt-ltb}

-- a line that there is lies whole in the image
pub inside : (i : Image) (line : ℕ) → line < line_count i → 16 * line + 16 ≤ length i.bytes.now
inside i line h = omega arith

module _ (bytes : List ℕ) (line mask : ℕ) (new : List ℕ) (fits : 16 * line + 16 ≤ length bytes) where
  length_written : (fault : Option Fault) → length (written_on fault bytes (image_laid bytes line mask new)) ≡ length bytes
  length_written None = length-image_laid bytes line mask new fits
  length_written (Some fault) = refl

  line_written : (fault : Option Fault) (k : ℕ) (b : Bool) → eqb k line ≡ b → bytes_of (written_on fault bytes (image_laid bytes line mask new)) k ≡ cond b (written_on fault (bytes_of bytes line) (laid (bytes_of bytes line) mask new)) (bytes_of bytes k)
  line_written None k true t = ap (bytes_of (image_laid bytes line mask new)) (eqb-true k line t) ∙ laid_line bytes line mask new fits
  line_written None k false t = unlaid_line bytes line mask new fits k (eqb-false k line t)
  line_written (Some fault) k true t = ap (bytes_of bytes) (eqb-true k line t)
  line_written (Some fault) k false t = refl

module _ (i : Image) (line mask : ℕ) (new : List ℕ) (there : line < line_count i) where
  bytes_are : (image_written i line mask new).bytes.now ≡ written_on (fault_of i line) i.bytes.now (image_laid i.bytes.now line mask new)
  bytes_are = rw (lt-ltb line (line_count i) there) refl

  -- a write leaves as many lines
  pub lines_written : line_count (image_written i line mask new) ≡ line_count i
  lines_written = ap (λ bytes. min (length bytes / 16) most_lines) bytes_are ∙ ap (λ n. min (n / 16) most_lines) (length_written i.bytes.now line mask new (inside i line there) (fault_of i line))

  -- what the lines hold then
  pub contents_written : (k : ℕ) → contents_of (image_written i line mask new) k ≡ cond (eqb k line) (written_on (fault_of i line) (contents_of i line) (laid (contents_of i line) mask new)) (contents_of i k)
  contents_written k = ap (λ bytes. bytes_of bytes k) bytes_are ∙ line_written i.bytes.now line mask new (inside i line there) (fault_of i line) k (eqb k line) refl

use Rattle.std.specs.Prelude.{ℕ, ◌+◌, ◌*◌, Bool, if◌then◌else◌, List, ◌++◌, length, take, drop, Some, None, Option, nat_le}
use Rattle.line.specs.Laid.{laid}

-- whether an image holds a line whole
abbrev pub holds : List ℕ → ℕ → Bool
holds image line = nat_le (16 * line + 16) (length image)

-- the 16 bytes of an image that begin at 16 × line
abbrev pub bytes_of : List ℕ → ℕ → List ℕ
bytes_of image line = take 16 (drop (16 * line) image)

-- the bytes of a line in an image, if it holds the line whole
abbrev pub line_in : List ℕ → ℕ → Option (List ℕ)
line_in image line = if holds image line then Some (bytes_of image line) else None

-- an image with other bytes for one line, and all bytes before and after that line as they were
abbrev pub with_line : List ℕ → ℕ → List ℕ → List ℕ
with_line image line bytes = take (16 * line) image ++ (bytes ++ drop (16 * line + 16) image)

-- an image with new bytes laid on one line; one that does not hold the line whole stays as it was
abbrev pub image_laid : List ℕ → ℕ → ℕ → List ℕ → List ℕ
image_laid image line mask new = if holds image line then with_line image line (laid (bytes_of image line) mask new) else image

use Rattle.std.specs.Prelude.{ℕ, List}
use Rattle.memory.specs.Meaning.{Facts}
use Rattle.backing.specs.Backing.{image_of, open_requests}
use Rattle.backing.specs.Image.{line_count, contents_of, fault_of}
use Rattle.backing.specs.Open.{due_of}
use Rattle.backing.specs.declared.backing.Backing.{Backing}
use Rattle.backing.specs.declared.image.Image.{Image}
use Rattle.backing.specs.declared.requests.Request.{Request}

-- the facts of a memory on an image with open requests, with what is owed and the pace
abbrev pub facts_with : Image → List Request → ℕ → ℕ → Facts
facts_with image requests owed pace = record {
  lines = line_count image;
  contents = contents_of image;
  bad = fault_of image;
  due = due_of requests;
  owed = owed;
  pace = pace;
}

-- the facts of a memory on a backing store
abbrev pub facts_on : {limit : ℕ} → Backing limit → ℕ → ℕ → Facts
facts_on s owed pace = facts_with (image_of s) (open_requests s) owed pace

-- a memory at the bottom that is chosen when the program runs is the one that was chosen
use Rattle.std.specs.Prelude.{ℕ, List, Option, Result}
use Rattle.backing.specs.declared.image.Image.{Image}
use Rattle.bottom.specs.Ordered.{ordered_facts, ordered_image, OrderedReads, OrderedWrites, OrderedSteps}
use Rattle.bottom.specs.Scripted.{scripted_facts, scripted_image, ScriptedReads, ScriptedWrites, ScriptedSteps}
use Rattle.hierarchy.specs.declared.any_bottom.AnyBottom.{AnyBottom}
use Rattle.hierarchy.specs.declared.any_bottom.AnyBottom.TheVariants.{Ordered, Scripted}
use Rattle.memory.specs.Meaning.{Facts}
use Rattle.memory.specs.declared.refusal.Refusal.{Refusal}
use Rattle.memory.specs.declared.replies.Answer.{Answer}

-- the image that it stands on
abbrev pub bottom_image : AnyBottom → Image
bottom_image (Ordered memory) = ordered_image memory
bottom_image (Scripted memory) = scripted_image memory

-- what there is to know of it
abbrev pub bottom_facts : AnyBottom → Facts
bottom_facts (Ordered memory) = ordered_facts memory
bottom_facts (Scripted memory) = scripted_facts memory

-- a read; it stays the kind of memory that it is
abbrev pub BottomReads : AnyBottom → ℕ → Result ℕ Refusal → AnyBottom → Type 0
BottomReads (Ordered s) line r (Ordered t) = OrderedReads s line r t
BottomReads (Scripted s) line r (Scripted t) = ScriptedReads s line r t
BottomReads (Ordered s) line r (Scripted t) = ⊥
BottomReads (Scripted s) line r (Ordered t) = ⊥

-- a write
abbrev pub BottomWrites : AnyBottom → ℕ → ℕ → List ℕ → Result ℕ Refusal → AnyBottom → Type 0
BottomWrites (Ordered s) line mask new r (Ordered t) = OrderedWrites s line mask new r t
BottomWrites (Scripted s) line mask new r (Scripted t) = ScriptedWrites s line mask new r t
BottomWrites (Ordered s) line mask new r (Scripted t) = ⊥
BottomWrites (Scripted s) line mask new r (Ordered t) = ⊥

-- a step
abbrev pub BottomSteps : AnyBottom → List ℕ → Option Answer → AnyBottom → List ℕ → Type 0
BottomSteps (Ordered s) before r (Ordered t) after = OrderedSteps s before r t after
BottomSteps (Scripted s) before r (Scripted t) after = ScriptedSteps s before r t after
BottomSteps (Ordered s) before r (Scripted t) after = ⊥
BottomSteps (Scripted s) before r (Ordered t) after = ⊥

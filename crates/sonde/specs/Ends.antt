-- How a run ends, and what it leaves in its output. Definitions only.
use Rattle.std.specs.Prelude.{ℕ, ◌≡◌, [], ◌∷◌, List, Option, Some, None, Result, Ok, Err, ⊤}
use Rattle.std.specs.Option.{IsSome}
use Rattle.std.specs.Io.KnownBytes.{Appends, IsAtEnd}
use Rattle.session.specs.Tests.{refusal_number}
use Rattle.session.specs.declared.Refusal.TheVariants as Why
use Rattle.sonde.specs.declared.Stop.{Stop}
use Rattle.sonde.specs.declared.Stop.TheVariants.{Refused, Closed}
use Rattle.sonde.specs.declared.Ending.{Ending}
use Rattle.sonde.specs.declared.Ending.TheVariants as By
use Rattle.sonde.specs.Frames.{Course, written}

-- the program's exit status
abbrev pub status : Ending → ℕ
status By.Finished = 0
status By.Refused = 1
status By.Unread = 1
status By.Closed = 2

-- made to its end or to its refusal, a run has written its frames behind the known bytes of the output; nothing is known of an output that took no more
abbrev pub Made : Course → Option (List ℕ) → Option (List ℕ) → Result ⊤ Stop → Type 0
Made c old new (Ok done) = (c.refusal ≡ None) × Appends old new c.frames
Made c old new (Err (Refused refusal)) = (c.refusal ≡ Some refusal) × Appends old new c.frames
Made c old new (Err Closed) = ⊤

-- the same of the whole program, with the refusal's byte; where a read failed, that of 1 alone is written
abbrev pub Ended : Course → Option (List ℕ) → Option (List ℕ) → Ending → Type 0
Ended c old new By.Finished = (c.refusal ≡ None) × Appends old new (written c)
Ended c old new By.Refused = IsSome c.refusal × Appends old new (written c)
Ended c old new By.Unread = Appends old new (refusal_number Why.Places ∷ [])
Ended c old new By.Closed = ⊤

-- a run that has come to its end or its refusal has left nothing of the known bytes of its input
abbrev pub AllRead : Option (List ℕ) → Ending → Type 0
AllRead left By.Finished = IsAtEnd left
AllRead left By.Refused = IsAtEnd left
AllRead left By.Unread = ⊤
AllRead left By.Closed = ⊤

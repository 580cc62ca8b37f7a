-- How much room there is. The code has each as a const of the same value. Definitions only.
use Rattle.std.specs.Prelude.{ℕ, ◌*◌}

-- the places of a vector: PLACES
abbrev pub places : ℕ
places = 16

-- how many evaluated right-hand sides an attempt keeps: ANSWERS
abbrev pub answers_kept : ℕ
answers_kept = 20

-- the room that they take: ROOM
abbrev pub answer_room : ℕ
answer_room = answers_kept * places

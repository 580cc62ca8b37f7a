-- A session of the old layout, brought over: what its numbers and the figures of today hold. Assumes nothing.
use Rattle.std.proofs.Common.{ℕ, ◌≡◌, ap, ◌∙◌, List, Float}
use Rattle.session.specs.Figures.{session_of, figures_of}
use Rattle.session.specs.Old.{old_session_of, brought_over}
use Rattle.session.proofs.Old.{brought_back}
use Rattle.image.specs.Image.{head_in}
use Rattle.library.specs.Library.{Brought}

pub brought : (numbers : List ℕ) (old figures : List Float) → figures ≡ figures_of (brought_over (old_session_of (head_in numbers) old)) → Brought numbers old figures
brought numbers old figures e = record { figures = e; session = ap (session_of (head_in numbers)) e ∙ brought_back (head_in numbers) old }

-- What is kept of an input whose bytes are known. Assumes nothing.
use Rattle.std.proofs.Common.{ℕ, ◌≡◌, List, [], ◌++◌, take, Option, None, Some, IfSome, ◌∙◌, ap}
use Rattle.std.specs.Option.{option_map}
use Rattle.std.specs.Io.KnownBytes.{Appends}

-- what was written into an empty vector from a reader of at most k bytes
pub kept_first : (k : ℕ) (known : Option (List ℕ)) (old new : List ℕ) → old ≡ [] → IfSome (option_map (take k) known) (Appends (Some old) (Some new))
    → IfSome known (λ b. new ≡ take k b)
kept_first k None old new none h = tt
kept_first k (Some b) old new none h = h ∙ ap (λ l. l ++ take k b) none

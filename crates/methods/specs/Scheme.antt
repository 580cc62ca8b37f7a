-- The numbers that stand for the schemes. Definitions only.
use Rattle.std.specs.Prelude.{◌≡◌, ℕ, ◌<◌, Result, MatchResult}
use Rattle.methods.specs.declared.scheme.Scheme.{Scheme}
use Rattle.methods.specs.declared.scheme.Scheme.TheVariants.{LawsonEuler, NorsettEuler, Etdrk2, Etdrk3, Etdrk4, HochOst4, Exp4, Epirk4s3A, Epirk4s3B, Epirk5s3}
use Rattle.methods.specs.declared.scheme.Scheme.TheVariants.{Exprb53s3, Epirk5P1, Epirk5P2, Etd2, Exprb32, Exprb43}
use Rattle.methods.specs.declared.scheme.UnknownScheme.{UnknownScheme}

-- the place of a scheme in the published order
abbrev pub number_of : Scheme → ℕ
number_of LawsonEuler = 0
number_of NorsettEuler = 1
number_of Etdrk2 = 2
number_of Etdrk3 = 3
number_of Etdrk4 = 4
number_of HochOst4 = 5
number_of Exp4 = 6
number_of Epirk4s3A = 7
number_of Epirk4s3B = 8
number_of Epirk5s3 = 9
number_of Exprb53s3 = 10
number_of Epirk5P1 = 11
number_of Epirk5P2 = 12
number_of Etd2 = 13
number_of Exprb32 = 14
number_of Exprb43 = 15

-- a number is that of the scheme, or, where no scheme has it, above 15
abbrev pub Decodes : ℕ → Result Scheme UnknownScheme → Type 0
Decodes number r = MatchResult r (λ scheme. number_of scheme ≡ number) (λ e. (e.0 ≡ number) × (15 < number))

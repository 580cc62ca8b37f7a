-- The laws of specs/Claims.antt. Assumes nothing.
use Rattle.std.proofs.Common.{ℕ, ◌+◌, ◌<◌, ◌≡◌, true}
use Rattle.blocks.specs.Blocks.{Blocks, whole, finite_blocks, block_div, block_squared, block_term}
use Rattle.matrix.specs.Matrix.{norm, squarings, power}
use Rattle.blocks.specs.Claims.{ProductByBlocks, IdentityByBlocks, DivisionByBlocks, AdditionByBlocks, LargestByBlocks, StopByBlocks, NeverDisappears, SquaresAllAlong, SquaresByBlocks}
use Rattle.blocks.specs.Claims.{TermsByBlocks, TermsFinite, ShiftsDivided, TermsShift, AdmittedByParts, NormByParts}
use Rattle.matrix.proofs.Zeros.{above_over}
use Rattle.blocks.proofs.Whole.{Finite, by_test, to_test}
use Rattle.blocks.proofs.Products.{product_whole}
use Rattle.blocks.proofs.Entries.{identity_whole, div_whole, add_whole}
use Rattle.blocks.proofs.Largest.{from_zero, from_one, small_whole}
use Rattle.blocks.proofs.Survives.{never_upper, never_lower}
use Rattle.blocks.proofs.Squares.{all_along, squared_whole}
use Rattle.blocks.proofs.Shift.{up_to, behind, lower_none, lower_next}
use Rattle.blocks.proofs.Terms.{term_whole}
use Rattle.blocks.proofs.Bounds.{divided_finite, terms_divided}
use Rattle.blocks.proofs.First.{div_shifts}
use Rattle.blocks.proofs.Norms.{admitted_parts, norm_parts}

pub product_by_blocks : ProductByBlocks
product_by_blocks n p x y h k = product_whole n p x y (by_test n p x h) (by_test n p y k)

pub identity_by_blocks : IdentityByBlocks
identity_by_blocks = identity_whole

pub division_by_blocks : DivisionByBlocks
division_by_blocks n p x d h = div_whole n p x d (above_over d h)

pub addition_by_blocks : AdditionByBlocks
addition_by_blocks = add_whole

pub largest_by_blocks : LargestByBlocks
largest_by_blocks n p x = (from_zero n p x, from_one n p x)

pub stop_by_blocks : StopByBlocks
stop_by_blocks = small_whole

pub never_disappears : NeverDisappears
never_disappears n p x = (never_upper n p x, never_lower n p x)

pub squares_all_along : SquaresAllAlong
squares_all_along s t n p x l h = to_test n p (block_squared t n p x) (all_along s t n p x l (by_test n p (block_squared s n p x) h))

pub squares_by_blocks : SquaresByBlocks
squares_by_blocks s n p x h = squared_whole s n p x (by_test n p _ h)

before : (n p : ℕ) (a : Blocks) (k : ℕ) → ((j : ℕ) → j < k → finite_blocks n p (block_term n p a j) ≡ true) → (j : ℕ) → j < k → Finite n p (block_term n p a j)
before n p a k h j l = by_test n p (block_term n p a j) (h j l)

pub terms_by_blocks : TermsByBlocks
terms_by_blocks n p a k h b = term_whole n p a (by_test n p a h) k (before n p a k b)

pub terms_finite : TermsFinite
terms_finite n p x ok =
    let d = power (squarings (norm (whole n p x) (n + p))) in
    (to_test n p (block_div n p x d) (divided_finite n p x ok), λ k l. to_test n p (block_term n p (block_div n p x d) k) (terms_divided n p x ok k l))

pub shifts_divided : ShiftsDivided
shifts_divided n p a nu d h s = div_shifts n p a nu d (above_over d h) s

pub terms_shift : TermsShift
terms_shift n p t a nu h s =
    let f = by_test n p t h in
    record { up_to = up_to n p t a nu f s; behind = behind n p t a nu f s; diagonal = lower_none n p t a nu f s; next = lower_next n p t a nu f s }

pub admitted_by_parts : AdmittedByParts
admitted_by_parts = admitted_parts

pub norm_by_parts : NormByParts
norm_by_parts = norm_parts

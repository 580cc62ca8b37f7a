-- Laws of reports: how they join, and their counts as 32 bits hold them. Assumes nothing.
use Rattle.std.proofs.Common.{◌≡◌, ℕ, ◌+◌, ◌%◌, ◌^◌, ◌<◌, Bool, true, false, cond, ◌&&◌, List, sym, refl, ap, ◌∙◌, add_assoc, mod-eq_of_lt, zero-add, Float}
use Rattle.std.proofs.Math.Bool.{and_assoc}
use Rattle.std.proofs.Math.Nat.{mod-add-mod, add-mod-mod, mod-mod}
use Rattle.methods.specs.declared.Tally.{Tally}
use Rattle.methods.specs.declared.Work.{Work}
use Rattle.methods.specs.Tally.{Report, Tried, tested, clean, joined, work_of}
use Rattle.methods.specs.Phi.{more}
use Rattle.methods.specs.Parts.{word, narrow, narrowed, narrow_work, in32, counted_in32, report}
use Rattle.methods.specs.Step.{ended, finish}
use Rattle.methods.specs.Pass.{Stand, fails, asks, ends, counting, under}

-- ---- joining

pub joined_assoc : (x y z : Report) → joined (joined x y) z ≡ joined x (joined y z)
unfolding joined
joined_assoc x y z =
    rw (
      and_assoc x.ok y.ok z.ok,
      add_assoc x.exponentials y.exponentials z.exponentials,
      add_assoc x.terms y.terms z.terms,
      add_assoc x.squarings y.squarings z.squarings,
    )

pub joined-clean : (x : Report) → joined clean x ≡ x
unfolding joined clean tested
joined-clean x = rw (zero-add x.exponentials, zero-add x.terms, zero-add x.squarings)

-- ---- a stand under reports

counting-clean : (s : Stand) → counting clean s ≡ s
unfolding counting
counting-clean fails = refl
counting-clean (asks x t) = refl
counting-clean (ends x e t) = rw joined-clean

pub under-clean : (s : Stand) → under clean s ≡ s
unfolding under clean tested
under-clean s = unfold clean tested in counting-clean s

counting-joined : (x y : Report) (s : Stand) → counting (joined x y) s ≡ counting x (counting y s)
unfolding counting
counting-joined x y fails = refl
counting-joined x y (asks z t) = refl
counting-joined x y (ends z e t) = rw joined_assoc

-- by the two tests
both_under : (a b : Bool) (x y : Report) (s : Stand) → cond (a && b) (counting (joined x y) s) fails ≡ cond a (counting x (cond b (counting y s) fails)) fails
unfolding counting
both_under true true x y s = unfold counting in counting-joined x y s
both_under true false x y s = refl
both_under false b x y s = refl

pub under-joined : (x y : Report) (s : Stand) → under (joined x y) s ≡ under x (under y s)
unfolding under joined
under-joined x y s = unfold joined in both_under x.ok y.ok x y s

-- ---- counts as 32 bits hold them

word-left : (a b : ℕ) → word (word a + b) ≡ word (a + b)
unfolding word
word-left a b = mod-add-mod a (2 ^ 32) b

word_right : (a b : ℕ) → word (a + word b) ≡ word (a + b)
unfolding word
word_right a b = add-mod-mod a b (2 ^ 32)

narrow-left : (x y : Report) → narrow (joined (narrow x) y) ≡ narrow (joined x y)
unfolding narrow joined
narrow-left x y = rw (word-left x.exponentials y.exponentials, word-left x.terms y.terms, word-left x.squarings y.squarings)

pub narrow_right : (x y : Report) → narrow (joined x (narrow y)) ≡ narrow (joined x y)
unfolding narrow joined
narrow_right x y = rw (word_right x.exponentials y.exponentials, word_right x.terms y.terms, word_right x.squarings y.squarings)

held_cond : (c : Bool) (s t : Stand) → in32 s ≡ in32 t → in32 (cond c s fails) ≡ in32 (cond c t fails)
held_cond true s t e = e
held_cond false s t e = refl

held_counting : (b : Report) (s : Stand) → in32 (counting (narrow b) s) ≡ in32 (counting b s)
unfolding counting in32
held_counting b fails = refl
held_counting b (asks x t) = refl
held_counting b (ends x e t) = rw narrow-left

pub held_narrow : (b : Report) (s : Stand) → in32 (under (narrow b) s) ≡ in32 (under b s)
unfolding under narrow
held_narrow b s = unfold narrow in held_cond b.ok (counting (narrow b) s) (counting b s) (held_counting b s)

-- two reports that 32 bits hold alike
pub held_alike : (b c : Report) (s : Stand) → narrow b ≡ narrow c → in32 (under b s) ≡ in32 (under c s)
held_alike b c s e = sym (held_narrow b s) ∙ ap (λ t. in32 (under t s)) e ∙ held_narrow c s

-- ---- the records as the code makes them

-- a count of 32 bits is what they hold
pub word_is : (k : ℕ) → k < 2 ^ 32 → word k ≡ k
unfolding word
word_is k h = mod-eq_of_lt h

-- ---- sums of actions, each sum as 32 bits hold it
module _ (n : ℕ) (c : Float) where
  more-narrow : (s p : Tried) → narrowed (more n (narrowed s) c p) ≡ narrowed (more n s c p)
  unfolding narrowed more
  more-narrow s p = rw (narrow-left s.tally p.tally)

  narrow-more : (s p : Tried) → narrowed (more n s c (narrowed p)) ≡ narrowed (more n s c p)
  unfolding narrowed more
  narrow-more s p = rw (narrow_right s.tally p.tally)

  -- a part more, onto a sum that 32 bits hold, of a part that they hold, or both
  pub more_onto : (s S p q : Tried) → s ≡ narrowed S → q ≡ narrowed (more n s c p) → q ≡ narrowed (more n S c p)
  more_onto s S p q e h = (rw e at h) ∙ more-narrow S p

  pub more_of : (s p P q : Tried) → p ≡ narrowed P → q ≡ narrowed (more n s c p) → q ≡ narrowed (more n s c P)
  more_of s p P q e h = (rw e at h) ∙ narrow-more s P

  pub more_both : (s S p P q : Tried) → s ≡ narrowed S → p ≡ narrowed P → q ≡ narrowed (more n s c p) → q ≡ narrowed (more n S c P)
  more_both s S p P q e f h = more_of S p P q f (more_onto s S p q e h)

-- ---- what is told at the end, of a report that 32 bits hold
word-word : (a : ℕ) → word (word a) ≡ word a
unfolding word
word-word a = mod-mod a (2 ^ 32)

word_both : (a b : ℕ) → word (word a + word b) ≡ word (a + b)
word_both a b = word-left a (word b) ∙ word_right a b

told_end : (t : Report) → narrow_work (work_of t) ≡ narrow_work (work_of (narrow t))
unfolding narrow_work work_of narrow
told_end t = rw (word-word t.exponentials, word_both t.terms t.squarings)

-- the work as the code makes it
pub work_is : (t : Tally) (k : ℕ) → t.exponentials < 2 ^ 32 → k ≡ (t.terms + t.squarings) % 2 ^ 32
    → record { exponentials = t.exponentials; products = k } ≡ narrow_work (work_of (report t))
unfolding narrow_work work_of
work_is t k h e = rw (word_is t.exponentials h) (unfold word in rw e)

-- what is told of the end that a pass has reached
pub told_work : (x e g : List Float) (t : Tally) (s : Stand) (w : Work) → ends x e (narrow (report t)) ≡ in32 s → w ≡ narrow_work (work_of (report t))
    → ended x e g w ≡ counted_in32 (finish g (in32 s))
unfolding finish counted_in32
told_work x e g t s w h k = rw (← h) (ap (λ z. ended x e g z) (k ∙ told_end (report t)))

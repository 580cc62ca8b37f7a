-- What a call over the figures leaves in the slices: what it returns, and what came where it is refused. Assumes nothing.
use Rattle.std.proofs.Common.{ℕ, ◌≡◌, refl, ap, ◌∙◌, Bool, true, false, cond, List, Float, length}
use Rattle.session.specs.declared.Session.{Session}
use Rattle.session.specs.declared.Head.{Head}
use Rattle.session.specs.declared.Left.{Left}
use Rattle.session.specs.declared.Told.{Told}
use Rattle.session.specs.Values.{is_refused}
use Rattle.session.specs.Calls.{Outcome}
use Rattle.session.specs.Figures.{FIGURES, session_of, figures_of}
use Rattle.session.specs.Lent.{Remains, remains, Fills, fills, left, lent_call, lent_fill, lent_open}
use Rattle.session.proofs.Kept.{Same}
use Rattle.session.proofs.Inverse.{figures_back}
use Rattle.image.specs.Image.{head_in, packed, unpacked}
use Rattle.library.specs.Library.{Room, Said, Opened, Back, BackLent}

-- a refused call leaves the figures, whatever it would have made of them
figures_kept : (t : Told) (k : Head) (x : List Float) → length x ≡ FIGURES → Same (session_of k x) t → figures_of t.session ≡ cond (is_refused t.answer) x (figures_of t.session)
figures_kept t k x long same = go (is_refused t.answer) same
  where
    go : (b : Bool) → (b ≡ true → t.session ≡ session_of k x) → figures_of t.session ≡ cond b x (figures_of t.session)
    go true f = ap figures_of (f refl) ∙ figures_back k x long
    go false f = refl

module _ (n : List ℕ) (x : List Float) (before : Room) (long : length x ≡ FIGURES) {fits : Bool} (right : fits ≡ true) {l : Left} {n' : List ℕ} {x' : List Float} {after : Room}
    (numbers : n' ≡ cond (is_refused l.answer) n (packed l.head)) (said : Said l.answer after) where
  pub lent_back : (call : Session → Told) → remains l x' ≡ lent_call fits (head_in n) x call → Same (unpacked n x) (call (unpacked n x))
      → Back (call (unpacked n x)) (record { numbers = n; figures = x; reply = before }) (record { numbers = n'; figures = x'; reply = after })
  unfolding lent_call left
  lent_back call e same =
      let made : remains l x' ≡ remains (left (call (unpacked n x))) (figures_of (call (unpacked n x)).session) = rw right at e in
      let is : l ≡ left (call (unpacked n x)) = ap (λ (r : Remains). r.left) made in
      let stays : x' ≡ figures_of (call (unpacked n x)).session = ap (λ (r : Remains). r.figures) made in
      record {
        numbers = rw is at numbers;
        figures = stays ∙ figures_kept (call (unpacked n x)) (head_in n) x long same;
        said = rw is at said;
      }

  pub lent_back_out : (call : Session → List Float → Outcome) (out : List Float) {out' : List Float} → fills l x' out' ≡ lent_fill fits (head_in n) x out call
      → Same (unpacked n x) (call (unpacked n x) out).told
      → BackLent (call (unpacked n x) out) (record { numbers = n; figures = x; reply = before }) (record { numbers = n'; figures = x'; reply = after }) out'
  unfolding lent_fill left
  lent_back_out call out {out'} e same =
      let made : fills l x' out' ≡ fills (left (call (unpacked n x) out).told) (figures_of (call (unpacked n x) out).told.session) (call (unpacked n x) out).out =
      rw right at e in
      let is : l ≡ left (call (unpacked n x) out).told = ap (λ (f : Fills). f.remains.left) made in
      let stays : x' ≡ figures_of (call (unpacked n x) out).told.session = ap (λ (f : Fills). f.remains.figures) made in
      record {
        back = record {
          numbers = rw is at numbers;
          figures = stays ∙ figures_kept (call (unpacked n x) out).told (head_in n) x long same;
          said = rw is at said;
        };
        out = ap (λ (f : Fills). f.out) made;
      }

-- an open leaves the session that it gives, that of a refused open too
pub lent_open_lem : (x : List Float) {fits : Bool} → fits ≡ true → (t : Told) {l : Left} {n' : List ℕ} {x' : List Float} {after : Room} → remains l x' ≡ lent_open fits x t
    → n' ≡ packed l.head → Said l.answer after → Opened t (record { numbers = n'; figures = x'; reply = after })
unfolding lent_open left
lent_open_lem x right t {l} {n'} {x'} e numbers said =
    let made : remains l x' ≡ remains (left t) (figures_of t.session) = rw right at e in
    let is : l ≡ left t = ap (λ (q : Remains). q.left) made in
    record { numbers = rw is at numbers; figures = ap (λ (q : Remains). q.figures) made; said = rw is at said }

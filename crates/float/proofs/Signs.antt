-- The sign of a product: turned where just one of two signs is. Assumes nothing.
use Rattle.std.proofs.Common.{◌≡◌, refl, Bool, true, false, not}
use Rattle.std.specs.Float.Ieee.{unlike}

-- signs may be taken in any order
pub unlike_mix : (s t u v : Bool) → unlike (unlike s t) (unlike u v) ≡ unlike (unlike s u) (unlike t v)
unlike_mix true true true true = refl
unlike_mix true true true false = refl
unlike_mix true true false true = refl
unlike_mix true true false false = refl
unlike_mix true false true true = refl
unlike_mix true false true false = refl
unlike_mix true false false true = refl
unlike_mix true false false false = refl
unlike_mix false true true true = refl
unlike_mix false true true false = refl
unlike_mix false true false true = refl
unlike_mix false true false false = refl
unlike_mix false false true true = refl
unlike_mix false false true false = refl
unlike_mix false false false true = refl
unlike_mix false false false false = refl

pub unlike_assoc : (s t u : Bool) → unlike (unlike s t) u ≡ unlike s (unlike t u)
unlike_assoc true true true = refl
unlike_assoc true true false = refl
unlike_assoc true false true = refl
unlike_assoc true false false = refl
unlike_assoc false true true = refl
unlike_assoc false true false = refl
unlike_assoc false false true = refl
unlike_assoc false false false = refl

-- a sign twice, and a sign that is not turned
pub unlike_self : (s : Bool) → unlike s s ≡ false
unlike_self true = refl
unlike_self false = refl

pub unlike_false : (s : Bool) → unlike s false ≡ s
unlike_false true = refl
unlike_false false = refl

pub false_unlike : (s : Bool) → unlike false s ≡ s
false_unlike true = refl
false_unlike false = refl

-- a minus before one of the two
pub unlike_not : (s t : Bool) → not (unlike s t) ≡ unlike s (not t)
unlike_not true true = refl
unlike_not true false = refl
unlike_not false true = refl
unlike_not false false = refl

-- the sign of a product whose inner index cancels
pub inner : (s t u : Bool) → unlike (unlike s t) (unlike t u) ≡ unlike s u
inner true true true = refl
inner true true false = refl
inner true false true = refl
inner true false false = refl
inner false true true = refl
inner false true false = refl
inner false false true = refl
inner false false false = refl

pub inner1 : (s t : Bool) → unlike (unlike s t) t ≡ s
inner1 true true = refl
inner1 true false = refl
inner1 false true = refl
inner1 false false = refl

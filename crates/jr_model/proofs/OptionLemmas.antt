-- What an option or a result is, by what is known of it.
use Rattle.std.proofs.Common.{◌≡◌, [], Bool, true, false, cond, refl, inl, inr}
use Rattle.std.specs.Prelude.{◌⊎◌, Option, Some, None, Result, Ok, Err, OnErr, is_none, option_map, option_to_list}
use Rattle.std.specs.Option.{option_or}
use Rattle.std.specs.List.{cons_option}
use Rattle.std.proofs.lemmas.Option.{same_Some}

pub or_none : {X : Type 0} (o : Option X) → option_or o None ≡ o
or_none None = refl
or_none (Some x) = refl

-- one of two, or neither
pub or_some : {X : Type 0} (a b : Option X) (x : X) → option_or a b ≡ Some x → (a ≡ Some x) ⊎ (b ≡ Some x)
or_some None b x h = inr h
or_some (Some y) b x h = inl h

pub neither : {X : Type 0} (a b : Option X) → option_or a b ≡ None → (a ≡ None) × (b ≡ None)
neither None b h = (refl, h)
neither (Some x) b h = cc

-- a choice by a test, or what comes after it
pub none_chosen : {X : Type 0} (b : Bool) (x : X) (o : Option X) → cond b (Some x) o ≡ None → (b ≡ false) × (o ≡ None)
none_chosen true x o h = cc
none_chosen false x o h = (refl, h)

-- neither of two choices, one after the other
pub neither_chosen : {X : Type 0} (a b : Bool) (x y : X) → cond a (Some x) (cond b (Some y) None) ≡ None → (a ≡ false) × (b ≡ false)
neither_chosen true b x y h = cc
neither_chosen false true x y h = cc
neither_chosen false false x y h = (refl, refl)

-- there is nothing
pub none_by_test : {X : Type 0} (o : Option X) → is_none o ≡ true → o ≡ None
none_by_test None h = refl
none_by_test (Some x) h = cc

pub none_from : {X : Type 0} (o : Option X) → ((x : X) → o ≡ Some x → ⊥) → o ≡ None
none_from None never = refl
none_from (Some x) never = absurd (never x refl)

-- what was made is made of something
pub made_of : {X Y : Type 0} (f : X → Y) (o : Option X) (y : Y) → option_map f o ≡ Some y → (x : X) × (o ≡ Some x) × (f x ≡ y)
made_of f None y h = cc
made_of f (Some x) y h = (x, refl, same_Some (f x) y h)

-- at most one item as a list
pub one_listed : {X : Type 0} (o : Option X) → cons_option o [] ≡ option_to_list o
one_listed None = refl
one_listed (Some x) = refl

-- what holds anyway holds where there is an error
pub on_error : {T E : Type 0} (r : Result T E) (P : Type 0) → P → OnErr r P
on_error (Ok x) P p = tt
on_error (Err e) P p = p

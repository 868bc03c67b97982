-- What is made of a thing that was found. Assumes nothing.
use Rattle.std.proofs.Common.{◌≡◌, Option, Some, None, ap}
use Rattle.std.specs.Option.{MatchOption, IsSomeAnd, option_map}

-- what `map` hands back, where its closure makes f of what a thing stands for
pub made_by_map : {A B C : Type 0} (v : A → B) (f : B → C) (Q : A → C → Type 0) (o : Option A) (r : Option C) →
    ((x : A) (y : C) → Q x y → y ≡ f (v x)) → MatchOption o (r ≡ None) (λ x. IsSomeAnd r (Q x)) → r ≡ option_map f (option_map v o)
made_by_map v f Q None r makes is = is
made_by_map v f Q (Some x) None makes is = absurd is
made_by_map v f Q (Some x) (Some y) makes is = ap Some (makes x y is)

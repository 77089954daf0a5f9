-- What a map's borrow leaves behind, where there is one only at some keys.
use borrow.Follows.Closed.{read_of}
use Rattle.std.proofs.Common.{◌≡◌, Option, Some, None, inl, inr, refl}
use Rattle.std.specs.Borrow.{MutBor}
use Rattle.std.specs.Option.{ghost_name_of, IsSome, option_copied_mut}

-- two readings of a borrow agree, where they do at each value that a reference may leave, and where there is none
pub same_reading : {D E : Type 0} (r : Option (MutBor E)) (F G : E → D) (v u : D) → (IsSome (option_copied_mut r) → (w : E) → F w ≡ G w) → v ≡ u →
    read_of (ghost_name_of r) F v ≡ read_of (ghost_name_of r) G u
same_reading None F G v u there none = λ t. inr (none t)
same_reading (Some x) F G v u there none = λ t. inl (x.ghost_name, λ w. there refl w t)

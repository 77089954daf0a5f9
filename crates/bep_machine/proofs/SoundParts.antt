-- What a step keeps of a replica that is sound: it is so afterwards, and is of the same folder as before.
use Rattle.std.proofs.Common.{◌≡◌, ◌⊎◌, ◌∙◌, refl, sym, subst, inl, inr}
use Rattle.bep_model.specs.Tables.{Device}
use Rattle.bep_machine.specs.Replica.{Replica}
use Rattle.bep_machine.specs.Sound.{IsSoundReplica}

-- the new replica is sound, and of the same folder: its kind and who else shares it are the old ones
pub record SoundChange (device : Device) (old new : Replica) : Type 0 where
  pub sound : IsSoundReplica device new
  pub kind : new.kind ≡ old.kind
  pub others : new.others ≡ old.others

-- where nothing changes
pub unchanged : {device : Device} {old : Replica} → IsSoundReplica device old → SoundChange device old old
unchanged sound = record { sound = sound; kind = refl; others = refl }

pub same_is_sound : {device : Device} {old new : Replica} → IsSoundReplica device old → new ≡ old → SoundChange device old new
same_is_sound {device} {old} sound same = subst (λ replica. SoundChange device old replica) (sym same) (unchanged sound)

-- a change that was made
pub made_is_sound : {device : Device} {old made new : Replica} → SoundChange device old made → new ≡ made → SoundChange device old new
made_is_sound {device} {old} change is = subst (λ replica. SoundChange device old replica) (sym is) change

-- where one change follows another
pub then_sound : {device : Device} {old next new : Replica} → SoundChange device old next → SoundChange device next new → SoundChange device old new
then_sound one other = record { sound = other.sound; kind = other.kind ∙ one.kind; others = other.others ∙ one.others }

-- of a row of refusals: nothing changed, or the rest of the row holds
pub or_rest : {device : Device} {old new : Replica} {Refusing Answering Passing Rest : Type 0} →
    IsSoundReplica device old → ((Refusing × ((new ≡ old) × Answering)) ⊎ (Passing × Rest)) → (Passing → Rest → SoundChange device old new) → SoundChange device old new
or_rest sound (inl refused) rest = same_is_sound sound refused.1.0
or_rest sound (inr passed) rest = rest passed.0 passed.1

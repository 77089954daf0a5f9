-- Where what prevails has come to all, the cut is firm.
use Rattle.std.proofs.Common.{◌≡◌, ◌∙◌, ℕ, Bool, true, false, cond, List, Contains, Option, Some, None, refl, sym, ap, subst, inl, inr, ⊎_elim, arith}
use Rattle.std.proofs.lemmas.Bool.{cases_order}
use Rattle.bep_record.specs.declared.entry.Entry.{Entry}
use Rattle.bep_record.specs.Content.{Deleted, content_of, content_of_kind}
use Rattle.bep_record.specs.Vector.{counter_of, IsAtMost}
use Rattle.bep_model.specs.declared.row.Row.{Row}
use Rattle.bep_model.specs.Tables.{Tables, Device, Shares}
use Rattle.bep_model.specs.Foreign.{IsForeign, IsHarmless}
use Rattle.bep_model.specs.Settled.{IsListOfWinners, OwnAgrees}
use Rattle.bep_model.specs.Free.{IsNews}
use Rattle.bep_model.specs.Firm.{AreEqual, OwnHasVersion}
use Rattle.bep_model.proofs.StaysFacts.{owner_shares}
use Rattle.bep_model.proofs.VersionsDecided.{below_or_not}
use Rattle.bep_model.proofs.Winners.{owned_says}
use Rattle.bep_machine.specs.Effects.{content_owned}
use Rattle.bep_converge.specs.Prevails.{IsAnywhere, IsNoLocalChange, IsAtTop, LetsIn, Prevails}
use Rattle.bep_converge.specs.Ended.{IsEnded, HearsOfNone}
use Rattle.bep_converge.specs.Laws.{EndIsFirm, TopStays}
use Rattle.bep_converge.proofs.StepKept.{known_of, wanted_anywhere, stays_or_takes}

-- ---- a device at the top stays

pub top_stays_lem : TopStays
top_stays_lem old new folder name top own device all step prevails shares is at =
    ⊎_elim
    (λ stays. stays)
    (λ takes.
    let news : IsNews (Some own) takes.wants.entry = subst (λ (o : Option Entry). IsNews o takes.wants.entry) is takes.wants.news in
    let valid : own.invalid ≡ false = subst (λ (o : Option Entry). IsNoLocalChange o) is (prevails.everywhere device shares).not_local in
    let within = prevails.top_of.above_all takes.wants.entry (wanted_anywhere old device folder name shares takes.wants) in
    absurd (⊎_elim (λ local. cc) (λ newer. newer (λ id. let a = within id in let b = at.1 id in omega arith)) news))
    (stays_or_takes old all new step device folder name shares)

-- ---- versions and contents

deleted_content : (entry : Entry) → entry.deleted ≡ true → content_of entry ≡ Deleted
deleted_content entry deleted = ap (λ (b : Bool). cond b Deleted (content_of_kind entry.kind entry.blocks entry.target)) deleted

-- what isn't strictly below is equal, if it is at most
equal_if_not_below : (u v : List (ℕ × ℕ)) → IsAtMost u v → ¬ (IsAtMost u v × (¬ IsAtMost v u)) → AreEqual u v
equal_if_not_below u v within not_below = (
  within,
  λ id.
      ⊎_elim
      (λ same. omega arith)
      (⊎_elim
      (λ less. absurd (not_below (within, λ back. let b = back id in omega arith)))
      (λ more. let w = within id in omega arith))
      (cases_order (counter_of u id) (counter_of v id)),
)

-- ---- a name that has come to all

module _ (t : Tables) (rows : List Row) (ended : IsEnded t) (hears : HearsOfNone t) (winners : IsListOfWinners t rows) (row : Row) (member : Contains rows row) where
  winner_shares : Shares t row.device row.folder
  winner_shares = owner_shares t row.folder row.entry.name (t.sharing row.folder) (row.device, row.entry) (winners.winners row member).left.valid.0

  winner_own : t.own row.device row.folder row.entry.name ≡ Some row.entry
  winner_own = owned_says t row.folder row.entry.name (t.sharing row.folder) (row.device, row.entry) (winners.winners row member).left.valid.0

  winner_anywhere : IsAnywhere t row.folder row.entry.name row.entry
  winner_anywhere = (row.device, winner_shares, inl (winner_own, (winners.winners row member).left.valid.1))

  top : Entry
  top = (ended.all row.folder row.entry.name (known_of t row.folder row.entry.name row.entry winner_anywhere)).0

  prevails : Prevails t row.folder row.entry.name top
  unfolding top
  prevails = (ended.all row.folder row.entry.name (known_of t row.folder row.entry.name row.entry winner_anywhere)).1

  top_anywhere : IsAnywhere t row.folder row.entry.name top
  top_anywhere = (prevails.top_of.owner, prevails.top_of.shares, inl prevails.top_of.owned)

  winner_at_top : AreEqual row.entry.version top.version
  winner_at_top =
      subst (λ (o : Option Entry). IsAtTop o top) winner_own
      (ended.at_top row.folder row.entry.name top prevails row.device winner_shares)

  same_as_top : content_of row.entry ≡ content_of top
  same_as_top = prevails.chain.agree row.entry top winner_anywhere top_anywhere winner_at_top

  -- each record at the top's version has the winner's content
  agrees : (entry : Entry) → IsAnywhere t row.folder row.entry.name entry → AreEqual entry.version top.version → content_of entry ≡ content_of row.entry
  agrees entry anywhere at = prevails.chain.agree entry top anywhere top_anywhere at ∙ sym same_as_top

  module _ (device : Device) (shares : Shares t device row.folder) where
    lets_in : LetsIn t device row.folder row.entry.name top
    lets_in = prevails.everywhere device shares

    own_agrees : (own : Option Entry) → t.own device row.folder row.entry.name ≡ own → IsNoLocalChange own → IsAtTop own top → OwnAgrees own (content_of row.entry)
    own_agrees None is valid at = same_as_top ∙ deleted_content top at
    own_agrees (Some own) is valid at = (valid, agrees own (device, shares, inl (is, valid)) at)

    owned_content : (own : Option Entry) → OwnAgrees own (content_of row.entry) → content_owned own ≡ content_of row.entry
    owned_content None agrees = sym agrees
    owned_content (Some own) agrees = agrees.1

    own_version : (own : Option Entry) → IsAtTop own top → OwnHasVersion own row.entry.version
    own_version None at = tt
    own_version (Some own) at = (
      λ id. let a = at.0 id in let b = winner_at_top.1 id in omega arith,
      λ id. let a = at.1 id in let b = winner_at_top.0 id in omega arith,
    )

    harmless : (own : Option Entry) → t.own device row.folder row.entry.name ≡ own → IsNoLocalChange own → IsAtTop own top → (entry : Entry) → IsForeign t device row.folder row.entry.name entry → IsHarmless own (content_of row.entry) entry
    harmless None is valid at entry foreign =
        deleted_content entry (hears device row.folder row.entry.name entry shares is foreign) ∙ sym (own_agrees None is valid at)
    harmless (Some own) is valid at entry foreign =
        let anywhere : IsAnywhere t row.folder row.entry.name entry = (device, shares, inr foreign) in
        let within = prevails.top_of.above_all entry anywhere in
        let behind : IsAtMost entry.version own.version = λ id. let a = within id in let b = at.1 id in omega arith in
        ⊎_elim
        (λ below. inr below)
        (λ not_below.
        let same = equal_if_not_below entry.version own.version behind not_below in
        inl (agrees entry anywhere (within, λ id. let a = same.1 id in let b = at.1 id in omega arith)))
        (below_or_not entry.version own.version)

  at_top : (device : Device) → Shares t device row.folder → IsAtTop (t.own device row.folder row.entry.name) top
  at_top device shares = ended.at_top row.folder row.entry.name top prevails device shares

pub end_is_firm_lem : EndIsFirm
end_is_firm_lem t rows ended hears winners = record {
  settled = record {
    certificate = winners;
    own = λ row device member shares.
        own_agrees t rows ended hears winners row member device shares (t.own device row.folder row.entry.name) refl
        (lets_in t rows ended hears winners row member device shares).not_local (at_top t rows ended hears winners row member device shares);
    store = λ row device member shares.
        let lets = lets_in t rows ended hears winners row member device shares in
        record {
          holds = lets.holds ∙ owned_content t rows ended hears winners row member device shares (t.own device row.folder row.entry.name)
              (own_agrees t rows ended hears winners row member device shares (t.own device row.folder row.entry.name) refl lets.not_local (at_top t rows ended hears winners row member device shares));
          clean = lets.clean;
        };
    foreign = λ row device member shares entry foreign.
        harmless t rows ended hears winners row member device shares (t.own device row.folder row.entry.name) refl
        (lets_in t rows ended hears winners row member device shares).not_local (at_top t rows ended hears winners row member device shares) entry foreign;
  };
  own = λ row device member shares.
      own_version t rows ended hears winners row member device shares (t.own device row.folder row.entry.name) (at_top t rows ended hears winners row member device shares);
  foreign = λ row device member shares entry foreign id.
      let within = (prevails t rows ended hears winners row member).top_of.above_all entry (device, shares, inr foreign) id in
      let at = (winner_at_top t rows ended hears winners row member).1 id in
      omega arith;
}

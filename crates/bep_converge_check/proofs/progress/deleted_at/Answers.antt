use Rattle.std.proofs.Common.{◌≡◌, List, Contains, None, sym, subst, ◌∙◌, true≢false}
use Rattle.std.specs.FinMap.{get}
use Rattle.bep_tables.specs.declared.share.Share.{Share}
use Rattle.bep_tables.specs.Cut.{tables_of}
use Rattle.bep_converge_check.specs.Progress.{IsDeleted, IsUndeleted}
use Rattle.bep_converge_check.proofs.ProgressFacts.{own_name, one_deleted, none_deleted, none_there, gone_as}
use Rattle.bep_converge_check.proofs.progress.deleted_at.Goals as goal

pub returns-then-not-is_same-clause-count : goal.returns-then-not-is_same-clause-count
returns-then-not-is_same-clause-count c =
    let t = tables_of c.args.cut.now in
    none_there own_name (IsDeleted t c.args.folder.now) (IsUndeleted t c.args.folder.now) c.args.folder.now c.args.other.now c.args.name.now
    (λ same. true≢false (sym (c.is_same.ensures.1 same) ∙ c.if-not-is_same.true))

pub returns-then-all_lack-clause-count : goal.returns-then-all_lack-clause-count
returns-then-all_lack-clause-count c =
    one_deleted (tables_of c.args.cut.now) c.args.folder.now c.args.other.now c.args.name.now (c.is_same.ensures.0 c.if-not-is_same.false) c.requires
    ((gone_as c.cut_says.ensures c.args.cut.now c.shares.ensures.a_cut c.args.folder.now c.args.name.now).0
    (subst (λ (shares : List Share). (share : Share) → Contains shares share → get share.store c.args.name.now ≡ None) c.shares.ensures.value
    (c.all_lack.ensures.0 c.if-all_lack.true)))

pub returns-else-all_lack-clause-count : goal.returns-else-all_lack-clause-count
returns-else-all_lack-clause-count c =
    none_deleted (tables_of c.args.cut.now) c.args.folder.now c.args.other.now c.args.name.now (c.is_same.ensures.0 c.if-not-is_same.false)
    (λ gone.
    true≢false
    (sym
    (c.all_lack.ensures.1
    (subst (λ (shares : List Share). (share : Share) → Contains shares share → get share.store c.args.name.now ≡ None) (sym c.shares.ensures.value)
    ((gone_as c.cut_says.ensures c.args.cut.now c.shares.ensures.a_cut c.args.folder.now c.args.name.now).1 gone)))
    ∙ c.if-all_lack.false))

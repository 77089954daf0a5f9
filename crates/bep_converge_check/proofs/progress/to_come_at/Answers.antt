use Rattle.std.proofs.Common.{List, map, sym, subst, ◌∙◌, true≢false, arith}
use Rattle.std.specs.Option.{option_copied}
use Rattle.bep_tables.specs.declared.share.Share.{Share}
use Rattle.bep_tables.specs.Cut.{tables_of}
use Rattle.bep_tables.specs.Listed.{listed}
use Rattle.bep_audit.proofs.CutFacts.{devices_rise}
use Rattle.bep_audit.proofs.WinnerSaid.{few_rise}
use Rattle.bep_converge_check.specs.SoMany.{AreSoMany}
use Rattle.bep_converge_check.specs.Progress.{IsToCome, IsThere}
use Rattle.bep_converge_check.specs.inner.Behind.{IsBehindAmong, IsUpAmong}
use Rattle.bep_converge_check.proofs.ProgressFacts.{name_in, pairs_at, none_there}
use Rattle.bep_converge_check.proofs.progress.to_come_at.Goals as goal

pub count_behind-requires : goal.count_behind-requires
count_behind-requires c = devices_rise c.cut_says.ensures c.args.cut.now c.shares.ensures.a_cut c.args.folder.now c.shares.result.now c.shares.ensures.value

pub returns-then-is_same : goal.returns-then-is_same
returns-then-is_same c =
    let few = few_rise c.cut_says.ensures.found c.cut_says.ensures.has_folder c.args.cut.now c.shares.ensures.a_cut c.args.folder.now c.shares.result.now c.shares.ensures.value in
    let counted = c.count_behind.ensures.few in
    let most = few.0 in
    record {
      few = omega (arith, counted, most);
      count = pairs_at c.entries_are_held.ensures.held c.entries_are_held.ensures.shares c.cut_says.ensures c.args.cut.now c.shares.ensures.a_cut c.args.folder.now c.args.other.now (c.is_same.ensures.0 c.if-is_same.true)
          c.args.name.now (map listed c.args.group.now) c.requires.group c.requires.known (option_copied c.winner_of.result) c.winner_of.ensures c.count_behind.result
          (subst (λ (shares : List Share). AreSoMany (IsBehindAmong (option_copied c.winner_of.result) c.args.name.now shares) (IsUpAmong (option_copied c.winner_of.result) c.args.name.now shares) c.count_behind.result) c.shares.ensures.value c.count_behind.ensures.count);
    }

pub returns-else-is_same-clause-count : goal.returns-else-is_same-clause-count
returns-else-is_same-clause-count c = none_there name_in (IsToCome (tables_of c.args.cut.now) c.args.folder.now) (IsThere (tables_of c.args.cut.now) c.args.folder.now) c.args.folder.now c.args.other.now c.args.name.now (λ same. true≢false (sym (c.is_same.ensures.1 same) ∙ c.if-is_same.false))

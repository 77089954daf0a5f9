use Rattle.std.proofs.Common.{◌≡◌, Contains, Some, map, sym, subst, ◌∙◌, true≢false}
use Rattle.bep_tables.specs.Cut.{tables_of}
use Rattle.bep_model.specs.Tables.{Folder, FileName}
use Rattle.bep_converge.specs.Prevails.{IsAnywhere}
use Rattle.bep_converge_check.specs.Hindrance.{Hinder}
use Rattle.bep_converge_check.specs.inner.Found.{FindsHinder}
use Rattle.bep_converge_check.specs.inner.Weight.{record_of}
use Rattle.bep_converge_check.proofs.NameSays.{in_line_as, agree_as}
use Rattle.bep_converge_check.proofs.AtName.{not_in_line, differ}
use Rattle.bep_converge_check.proofs.at_name.beside_records.Goals as goal

pub returns-then-not-are_in_line : goal.returns-then-not-are_in_line
returns-then-not-are_in_line c =
    let t = tables_of c.args.cut.now in
    let key : Folder × FileName = (c.args.folder.now, c.args.name.now) in
    let line = in_line_as (Contains (map record_of c.args.sorted.now)) (IsAnywhere t key.0 key.1) c.requires.all in
    subst (λ (one : Hinder). FindsHinder t (λ k. k ≡ key) (Some one)) (sym c.at_whole.ensures)
    (not_in_line t key c.requires.known c.args.top.now c.requires.top (λ in_line. true≢false (sym (c.are_in_line.ensures.1 (line.1 in_line)) ∙ c.if-not-are_in_line.true)))

pub agree-requires : goal.agree-requires
agree-requires c = c.requires.sorted

pub returns-then-not-agree : goal.returns-then-not-agree
returns-then-not-agree c =
    let t = tables_of c.args.cut.now in
    let key : Folder × FileName = (c.args.folder.now, c.args.name.now) in
    let records = Contains (map record_of c.args.sorted.now) in
    let line = in_line_as records (IsAnywhere t key.0 key.1) c.requires.all in
    let same = agree_as records (IsAnywhere t key.0 key.1) c.requires.all in
    subst (λ (one : Hinder). FindsHinder t (λ k. k ≡ key) (Some one)) (sym c.at_whole-then-not-agree.ensures)
    (differ t key c.requires.known c.args.top.now c.requires.top (line.0 (c.are_in_line.ensures.0 c.if-not-are_in_line.false))
    (λ agree. true≢false (sym (c.agree.ensures.1 (same.1 agree)) ∙ c.if-not-agree.true)))

pub beside_devices-requires : goal.beside_devices-requires
beside_devices-requires c =
    let t = tables_of c.args.cut.now in
    let key : Folder × FileName = (c.args.folder.now, c.args.name.now) in
    let records = Contains (map record_of c.args.sorted.now) in
    record {
      known = c.requires.known;
      top = c.requires.top;
      in_line = (in_line_as records (IsAnywhere t key.0 key.1) c.requires.all).0 (c.are_in_line.ensures.0 c.if-not-are_in_line.false);
      agree = (agree_as records (IsAnywhere t key.0 key.1) c.requires.all).0 (c.agree.ensures.0 c.if-not-agree.false);
    }

use Rattle.std.proofs.Common.{◌≡◌, ◌↔◌, ◌∙◌, IsTrue, map, sym, subst}
use Rattle.std.specs.Option.{option_copied}
use Rattle.bep_record.specs.declared.folder_kind.FolderKind.{FolderKind}
use Rattle.bep_record.specs.declared.folder_kind.FolderKind.TheVariants.{SendReceive, SendOnly, ReceiveOnly}
use Rattle.bep_tables.specs.Listed.{listed}
use Rattle.bep_converge_check.proofs.TopFacts.{TakesOrIsAt, where_it_sends, where_it_takes}
use Rattle.bep_converge_check.proofs.among.takes_or_is_at.Goals as goal

pub returns-in-SendOnly : goal.returns-in-SendOnly
returns-in-SendOnly c =
    let group = map listed c.args.group.now in
    subst (λ (kind : FolderKind). IsTrue c.is_at_tops.result ↔ TakesOrIsAt group (option_copied c.args.own) kind) (sym c.in-SendOnly.is)
    (where_it_sends group (option_copied c.args.own) c.is_at_tops.result c.is_at_tops.ensures)

pub returns-in-SendReceive : goal.returns-in-SendReceive
returns-in-SendReceive c =
    where_it_takes (map listed c.args.group.now) (option_copied c.args.own) c.args.kind
    (λ (e : c.args.kind ≡ SendOnly). let both : SendReceive ≡ SendOnly = sym c.in-SendReceive.is ∙ e in cc)

pub returns-in-ReceiveOnly : goal.returns-in-ReceiveOnly
returns-in-ReceiveOnly c =
    where_it_takes (map listed c.args.group.now) (option_copied c.args.own) c.args.kind
    (λ (e : c.args.kind ≡ SendOnly). let both : ReceiveOnly ≡ SendOnly = sym c.in-ReceiveOnly.is ∙ e in cc)

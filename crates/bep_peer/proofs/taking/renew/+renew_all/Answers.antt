use Rattle.std.proofs.Common.{◌≡◌, ◌∙◌, arith, true, false, rules, Some, Option, ap}
use Rattle.std.specs.FinMap.{insert}
use Rattle.bep_index.specs.Listing.{Listing}
use Rattle.bep_folder.specs.Views.{with_exchanged}
use Rattle.bep_peer.specs.Member.{tables_in}
use Rattle.bep_peer.proofs.RenewFacts.{are_shared_framed, framed_exchanged, framed_then, framed_unchanged, on_err, renewed_both, renewed_rest, rest_shorter, shared_first, shared_framed, shared_rest, tables_back, tables_unchanged, viewed_still}
use Rattle.bep_peer.proofs.taking.renew.+renew_all.Goals as goal

pub renew_all-requires : goal.renew_all-requires
renew_all-requires g t c = λ κs outlives.
    let split = c.in-Some.ensures.cases.0 in
    let shorter = rest_shorter c.in-Some.one.now c.in-Some.more.now c.args.named.now split in
    (omega (arith, shorter, c.decreases), (outlives, shared_rest c.args.other c.in-Some.one.now c.in-Some.more.now c.args.named.now split c.args.folders.now c.requires.shared))

pub returns-then-is_under-clause-ok : goal.returns-then-is_under-clause-ok
returns-then-is_under-clause-ok g t c =
    let split = c.in-Some.ensures.cases.0 in
    let yes : c.is_under.result ≡ true = search rules in
    let shared = shared_first c.args.other c.in-Some.one.now c.in-Some.more.now c.args.named.now split c.args.folders.now c.requires.shared in
    renewed_rest c.args.other c.in-Some.one.now c.in-Some.more.now c.args.named.now split c.args.folders.now shared.0 shared.1 c.renew_all.result c.renew_all.new.folders
    ((c.is_under.ensures shared.0 shared.1).0 yes) c.renew_all.ensures.ok

pub returns-in_err-before-clause-framed : goal.returns-in_err-before-clause-framed
returns-in_err-before-clause-framed g t c =
    let shared = shared_first c.args.other c.in-Some.one.now c.in-Some.more.now c.args.named.now c.in-Some.ensures.cases.0 c.args.folders.now c.requires.shared in
    framed_unchanged c.args.folders.now c.exchange.new.folders c.in-Some.one.now.folder shared.0 shared.1 (c.in_err-before.ensures shared.0 shared.1).2

pub returns-in_err-before-clause-err : goal.returns-in_err-before-clause-err
returns-in_err-before-clause-err g t c =
    let shared = shared_first c.args.other c.in-Some.one.now c.in-Some.more.now c.args.named.now c.in-Some.ensures.cases.0 c.args.folders.now c.requires.shared in
    on_err _ (tables_unchanged c.args.folders.now c.exchange.new.folders c.in-Some.one.now.folder shared.0 shared.1 (c.in_err-before.ensures shared.0 shared.1).2)

pub renew_all-requires-2 : goal.renew_all-requires-2
renew_all-requires-2 g t c = λ κs outlives.
    let split = c.in-Some.ensures.cases.0 in
    let shorter = rest_shorter c.in-Some.one.now c.in-Some.more.now c.args.named.now split in
    let shared = shared_first c.args.other c.in-Some.one.now c.in-Some.more.now c.args.named.now split c.args.folders.now c.requires.shared in
    let framed = framed_exchanged c.args.folders.now c.exchange.new.folders c.in-Some.one.now.folder c.args.other shared.0 (Some c.cleared-empty.result) shared.1 (c.in_ok-before.ensures shared.0 shared.1).1 in
    (omega (arith, shorter, c.decreases), (outlives, are_shared_framed c.args.folders.now c.exchange.new.folders framed c.args.other c.in-Some.more.now (shared_rest c.args.other c.in-Some.one.now c.in-Some.more.now c.args.named.now split c.args.folders.now c.requires.shared)))

pub give_back-requires-clause-shared : goal.give_back-requires-clause-shared
give_back-requires-clause-shared g t c =
    let shared = shared_first c.args.other c.in-Some.one.now c.in-Some.more.now c.args.named.now c.in-Some.ensures.cases.0 c.args.folders.now c.requires.shared in
    let framed = framed_exchanged c.args.folders.now c.exchange.new.folders c.in-Some.one.now.folder c.args.other shared.0 (Some c.cleared-empty.result) shared.1 (c.in_ok-before.ensures shared.0 shared.1).1 in
    shared_framed c.args.folders.now c.renew_all-2.new.folders (framed_then c.args.folders.now c.exchange.new.folders c.renew_all-2.new.folders framed c.in-Err.ensures.framed) c.in-Some.one.now.folder c.args.other shared

pub give_back-requires-clause-viewed : goal.give_back-requires-clause-viewed
give_back-requires-clause-viewed g t c = λ later at.
    let shared = shared_first c.args.other c.in-Some.one.now c.in-Some.more.now c.args.named.now c.in-Some.ensures.cases.0 c.args.folders.now c.requires.shared in
    viewed_still c.args.folders.now c.renew_all-2.new.folders c.in-Some.one.now.folder c.args.other shared.0 later c.cleared-empty.result
    (c.in-Err.ensures.err ∙ ap tables_in (c.in_ok-before.ensures shared.0 shared.1).1) at

pub returns-in-Ok-clause-ok : goal.returns-in-Ok-clause-ok
returns-in-Ok-clause-ok g t c =
    let split = c.in-Some.ensures.cases.0 in
    let no : c.is_under.result ≡ false = search rules in
    let shared = shared_first c.args.other c.in-Some.one.now c.in-Some.more.now c.args.named.now split c.args.folders.now c.requires.shared in
    renewed_both c.args.other c.in-Some.one.now c.in-Some.more.now c.args.named.now split c.args.folders.now shared.0 shared.1 c.exchange.new.folders c.renew_all-2.new.folders c.cleared-empty.result
    (λ under. let yes = (c.is_under.ensures shared.0 shared.1).1 under in absurd (cc)) c.cleared-empty.ensures (c.in_ok-before.ensures shared.0 shared.1).1 c.in-Ok.ensures.ok

pub returns-in-Ok-clause-framed : goal.returns-in-Ok-clause-framed
returns-in-Ok-clause-framed g t c =
    let shared = shared_first c.args.other c.in-Some.one.now c.in-Some.more.now c.args.named.now c.in-Some.ensures.cases.0 c.args.folders.now c.requires.shared in
    let framed = framed_exchanged c.args.folders.now c.exchange.new.folders c.in-Some.one.now.folder c.args.other shared.0 (Some c.cleared-empty.result) shared.1 (c.in_ok-before.ensures shared.0 shared.1).1 in
    framed_then c.args.folders.now c.exchange.new.folders c.renew_all-2.new.folders framed c.in-Ok.ensures.framed

pub returns-in-Err-clause-framed : goal.returns-in-Err-clause-framed
returns-in-Err-clause-framed g t c =
    let shared = shared_first c.args.other c.in-Some.one.now c.in-Some.more.now c.args.named.now c.in-Some.ensures.cases.0 c.args.folders.now c.requires.shared in
    let framed = framed_exchanged c.args.folders.now c.exchange.new.folders c.in-Some.one.now.folder c.args.other shared.0 (Some c.cleared-empty.result) shared.1 (c.in_ok-before.ensures shared.0 shared.1).1 in
    let both = framed_then c.args.folders.now c.exchange.new.folders c.renew_all-2.new.folders framed c.in-Err.ensures.framed in
    let later = shared_framed c.args.folders.now c.renew_all-2.new.folders both c.in-Some.one.now.folder c.args.other shared in
    framed_then c.args.folders.now c.renew_all-2.new.folders c.give_back.new.folders both
    (framed_exchanged c.renew_all-2.new.folders c.give_back.new.folders c.in-Some.one.now.folder c.args.other later.0 c.in_ok-before.before later.1 (c.give_back.ensures later.0 later.1))

pub returns-in-Err-clause-err : goal.returns-in-Err-clause-err
returns-in-Err-clause-err g t c =
    let shared = shared_first c.args.other c.in-Some.one.now c.in-Some.more.now c.args.named.now c.in-Some.ensures.cases.0 c.args.folders.now c.requires.shared in
    let exchanged = c.in_ok-before.ensures shared.0 shared.1 in
    let framed = framed_exchanged c.args.folders.now c.exchange.new.folders c.in-Some.one.now.folder c.args.other shared.0 (Some c.cleared-empty.result) shared.1 exchanged.1 in
    let both = framed_then c.args.folders.now c.exchange.new.folders c.renew_all-2.new.folders framed c.in-Err.ensures.framed in
    let later = shared_framed c.args.folders.now c.renew_all-2.new.folders both c.in-Some.one.now.folder c.args.other shared in
    tables_back c.args.folders.now c.renew_all-2.new.folders c.give_back.new.folders c.in-Some.one.now.folder c.args.other shared.0 later.0 c.cleared-empty.result shared.1
    (c.in-Err.ensures.err ∙ ap tables_in exchanged.1) later.1
    (c.give_back.ensures later.0 later.1 ∙ ap (λ (view : Option Listing). insert c.renew_all-2.new.folders c.in-Some.one.now.folder (with_exchanged later.0 c.args.other view)) exchanged.0)

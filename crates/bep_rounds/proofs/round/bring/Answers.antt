use Rattle.std.proofs.Common.{◌≡◌, Err, [], refl, rules}
use Rattle.bep_peer.specs.network.Network.{cluster_of}
use Rattle.bep_rounds.specs.Rounds.{IsBrought}
use Rattle.bep_rounds.proofs.Made.{at_err, if_made}
use Rattle.bep_rounds.proofs.QuietRuns.{both_runs}
use Rattle.bep_rounds.proofs.Whole.{few_batches, few_blocks, fetches_at, from, hears_at, is_brought}
use Rattle.bep_rounds.proofs.round.bring.Goals as goal

pub returns-in_err-meet-clause-brings : goal.returns-in_err-meet-clause-brings
returns-in_err-meet-clause-brings g c =
    let is : c.from_residual.result ≡ Err c.in_err-meet.field-0.0 = search rules in
    λ turns top ready behind.
    let old = cluster_of c.args.cluster.now in
    let wanted = c.args.wanted.now in
    let round = from c.bring_is_watched.ensures old wanted turns top ready behind in
    at_err (IsBrought turns old (cluster_of c.meet.new.cluster) wanted top) c.meet.new.cluster.members c.from_residual.result c.in_err-meet.field-0.0 is
    (c.in_err-meet.ensures.made [] round.met round.meets)

pub returns-in_err-hear_all-clause-brings : goal.returns-in_err-hear_all-clause-brings
returns-in_err-hear_all-clause-brings g c =
    let is : c.from_residual-in_err-hear_all.result ≡ Err c.in_err-hear_all.field-0.0 = search rules in
    λ turns top ready behind.
    let old = cluster_of c.args.cluster.now in
    let wanted = c.args.wanted.now in
    let round = from c.bring_is_watched.ensures old wanted turns top ready behind in
    let met = c.in_ok-meet.ensures.made [] round.met round.meets in
    at_err (IsBrought turns old (cluster_of c.hear_all.new.cluster) wanted top) c.hear_all.new.cluster.members c.from_residual-in_err-hear_all.result c.in_err-hear_all.field-0.0 is
    (c.in_err-hear_all.ensures.made round.later round.blocks round.batches (few_batches c.bring_is_watched.ensures old wanted turns top ready behind c.in-Some.sizes c.in-Some.ensures)
    (hears_at c.bring_is_watched.ensures old wanted turns top ready behind c.in-Some.sizes c.in-Some.ensures (cluster_of c.meet.new.cluster) met))

pub returns-in_err-start-clause-brings : goal.returns-in_err-start-clause-brings
returns-in_err-start-clause-brings g c =
    let is : c.from_residual-in_err-start.result ≡ Err c.in_err-start.field-0.0 = search rules in
    λ turns top ready behind.
    let old = cluster_of c.args.cluster.now in
    let wanted = c.args.wanted.now in
    let round = from c.bring_is_watched.ensures old wanted turns top ready behind in
    let met = c.in_ok-meet.ensures.made [] round.met round.meets in
    let heard = c.in_ok-hear_all.ensures.made round.later round.blocks round.batches (few_batches c.bring_is_watched.ensures old wanted turns top ready behind c.in-Some.sizes c.in-Some.ensures)
    (hears_at c.bring_is_watched.ensures old wanted turns top ready behind c.in-Some.sizes c.in-Some.ensures (cluster_of c.meet.new.cluster) met) in
    at_err (IsBrought turns old (cluster_of c.start.new.cluster) wanted top) c.start.new.cluster.members c.from_residual-in_err-start.result c.in_err-start.field-0.0 is
    (c.in_err-start.ensures.made [] heard.1 (heard.1, heard.2, refl))

pub returns-in_err-fetch_all-clause-brings : goal.returns-in_err-fetch_all-clause-brings
returns-in_err-fetch_all-clause-brings g c =
    let is : c.from_residual-in_err-fetch_all.result ≡ Err c.in_err-fetch_all.field-0.0 = search rules in
    λ turns top ready behind.
    let old = cluster_of c.args.cluster.now in
    let wanted = c.args.wanted.now in
    let round = from c.bring_is_watched.ensures old wanted turns top ready behind in
    let met = c.in_ok-meet.ensures.made [] round.met round.meets in
    let heard = c.in_ok-hear_all.ensures.made round.later round.blocks round.batches (few_batches c.bring_is_watched.ensures old wanted turns top ready behind c.in-Some.sizes c.in-Some.ensures)
    (hears_at c.bring_is_watched.ensures old wanted turns top ready behind c.in-Some.sizes c.in-Some.ensures (cluster_of c.meet.new.cluster) met) in
    let started = c.in_ok-start.ensures.made [] heard.1 (heard.1, heard.2, refl) in
    at_err (IsBrought turns old (cluster_of c.fetch_all.new.cluster) wanted top) c.fetch_all.new.cluster.members c.from_residual-in_err-fetch_all.result c.in_err-fetch_all.field-0.0 is
    (c.in_err-fetch_all.ensures.made round.later round.blocks (few_blocks c.bring_is_watched.ensures old wanted turns top ready behind c.in-Some.sizes c.in-Some.ensures)
    (fetches_at c.bring_is_watched.ensures old wanted turns top ready behind heard.1 (cluster_of c.start.new.cluster) started heard.3))

pub returns-in_err-fetch_all-clause-quiet : goal.returns-in_err-fetch_all-clause-quiet
returns-in_err-fetch_all-clause-quiet g c =
    both_runs _ _ _ c.meet.ensures.quiet (both_runs _ _ _ c.hear_all.ensures.quiet (both_runs _ _ _ c.start.ensures.quiet c.fetch_all.ensures.quiet))

pub returns-clause-quiet : goal.returns-clause-quiet
returns-clause-quiet g c =
    both_runs _ _ _ c.meet.ensures.quiet (both_runs _ _ _ c.hear_all.ensures.quiet (both_runs _ _ _ c.start.ensures.quiet (both_runs _ _ _ c.fetch_all.ensures.quiet c.finish.ensures.quiet)))

pub returns-clause-brings : goal.returns-clause-brings
returns-clause-brings g c = λ turns top ready behind.
    let old = cluster_of c.args.cluster.now in
    let wanted = c.args.wanted.now in
    let round = from c.bring_is_watched.ensures old wanted turns top ready behind in
    let met = c.in_ok-meet.ensures.made [] round.met round.meets in
    let heard = c.in_ok-hear_all.ensures.made round.later round.blocks round.batches (few_batches c.bring_is_watched.ensures old wanted turns top ready behind c.in-Some.sizes c.in-Some.ensures)
    (hears_at c.bring_is_watched.ensures old wanted turns top ready behind c.in-Some.sizes c.in-Some.ensures (cluster_of c.meet.new.cluster) met) in
    let started = c.in_ok-start.ensures.made [] heard.1 (heard.1, heard.2, refl) in
    let fetched = c.in_ok-fetch_all.ensures.made round.later round.blocks (few_blocks c.bring_is_watched.ensures old wanted turns top ready behind c.in-Some.sizes c.in-Some.ensures)
    (fetches_at c.bring_is_watched.ensures old wanted turns top ready behind heard.1 (cluster_of c.start.new.cluster) started heard.3) in
    let new = cluster_of c.finish.new.cluster in
    if_made (round.later ≡ new) (IsBrought turns old new wanted top) c.finish.new.cluster.members c.finish.result
    (c.finish.ensures.made [] round.later (round.later, fetched.1, refl))
    (is_brought c.bring_is_watched.ensures old wanted turns top ready behind c.bring_keeps.ensures c.fewer_are_behind.ensures new)

use Rattle.std.proofs.Common.{◌≡◌, ◌+◌, ◌∷◌, ◌++◌, ◌∙◌, [], ℕ, Contains, List, length, ap, set, sym, subst, arith}
use Rattle.std.proofs.lemmas.List.{get_or_read}
use Rattle.bep_facts.specs.Members.{Contains-first, Contains-more}
use Rattle.bep_tables.specs.declared.table.entry.TableEntry.{TableEntry}
use Rattle.bep_tables.specs.inner.Groups.{Spot, key_in, rising, spot_at}
use Rattle.bep_tables.proofs.GroupFacts.{full_kept, no_spot}
use Rattle.bep_tables.proofs.Rising.{found_rising, rising_behind, sorted_rising}
use Rattle.bep_tables.proofs.Rooms.{Begun, next_begun, none_begun, none_filled}
use Rattle.bep_tables.proofs.table.groups.rooms.Goals as goal

pub index_mut-group-requires : goal.index_mut-group-requires
index_mut-group-requires c =
    let pair : TableEntry × ℕ = (c.in-Some._first.now.entry, c.in-Some.place.now) in
    let rest = rising c.next_back.new.self in
    let split = ap rising c.in-Some.ensures.steps ∙ rising_behind c.next_back.new.self (c.in-Some._first.now, c.in-Some.place.now) in
    let member = subst (λ l. Contains l pair) (sym split) (Contains-first pair rest) in
    let below = (c.loop-first.invariant.full.filled (key_in pair.0) pair.1 (c.loop-first.invariant.left pair member)).0 in
    omega (arith, below, c.loop-first.groups.ok)

pub loop-first-init : goal.loop-first-init
loop-first-init c =
    let pairs = c.args.places.now.entries in
    let places = rising pairs in
    let rest = ap rising c.iter-left.ensures.rest in
    let found = found_rising pairs c.iter-left.ensures.ordered c.iter-left.ensures.found in
    record {
      full = c.requires;
      left = λ pair member. found pair (subst (λ l. Contains l pair) rest member);
      begun = λ every counted. (
        [],
        subst (λ (l : List (TableEntry × ℕ)). Begun every places [] l c.args.groups.now.items (length c.in_ok-list.list.items)) (sym rest)
            (subst (λ n. Begun every places [] places c.args.groups.now.items n) (sym (ap (λ (l : List TableEntry). length l) c.in_ok-list.ensures.items))
            (none_begun every places c.args.groups.now.items counted (sorted_rising pairs c.iter-left.ensures.ordered) found)),
      );
    }

pub loop-first-preserved : goal.loop-first-preserved
loop-first-preserved c =
    let pair : TableEntry × ℕ = (c.in-Some._first.now.entry, c.in-Some.place.now) in
    let rest = rising c.next_back.new.self in
    let split = ap rising c.in-Some.ensures.steps ∙ rising_behind c.next_back.new.self (c.in-Some._first.now, c.in-Some.place.now) in
    let member = subst (λ l. Contains l pair) (sym split) (Contains-first pair rest) in
    let below = (c.loop-first.invariant.full.filled (key_in pair.0) pair.1 (c.loop-first.invariant.left pair member)).0 in
    let groups = c.loop-first.groups.items in
    let spot = spot_at groups pair.1 in
    let read : c.index_mut-group.result.now ≡ spot = get_or_read groups pair.1 c.index_mut-group.result.now below c.index_mut-group.ensures.value no_spot in
    let same : c.take_room.new.self.0 ≡ spot.0 = c.take_room.ensures.key ∙ ap (λ (s : Spot). s.0) read in
    let places = rising c.args.places.now.entries in
    let list = c.loop-first.list.items in
    let put : c.take_room.new.self ≡ (spot.0, length list) = ap (λ k. (k, c.take_room.new.self.1)) same ∙ ap (λ n. (spot.0, n)) c.in_ok-take_room.ensures.place in
    let now = c.in_ok-take_room.ensures.room ∙ ap (λ (s : Spot). length list + s.1) read in
    record {
      full = full_kept groups places pair.1 c.take_room.new.self c.loop-first.invariant.full below same;
      left = λ other there. c.loop-first.invariant.left other (subst (λ l. Contains l other) (sym split) (Contains-more pair rest other there));
      begun = λ every counted.
          let was = c.loop-first.invariant.begun every counted in (
            was.0 ++ pair ∷ [],
            subst (λ (s : Spot). Begun every places (was.0 ++ pair ∷ []) rest (set groups pair.1 s) (length c.take_room.new.list.items)) (sym put)
                (next_begun every places was.0 rest pair groups (length list) c.loop-first.invariant.full
                (subst (λ (l : List (TableEntry × ℕ)). Begun every places was.0 l groups (length list)) split was.1)
                (length c.take_room.new.list.items) now),
          );
    }

pub returns-in_err-take_room-clause-full : goal.returns-in_err-take_room-clause-full
returns-in_err-take_room-clause-full c =
    let pair : TableEntry × ℕ = (c.in-Some._first.now.entry, c.in-Some.place.now) in
    let rest = rising c.next_back.new.self in
    let split = ap rising c.in-Some.ensures.steps ∙ rising_behind c.next_back.new.self (c.in-Some._first.now, c.in-Some.place.now) in
    let member = subst (λ l. Contains l pair) (sym split) (Contains-first pair rest) in
    let below = (c.loop-first.invariant.full.filled (key_in pair.0) pair.1 (c.loop-first.invariant.left pair member)).0 in
    let groups = c.loop-first.groups.items in
    let spot = spot_at groups pair.1 in
    let read : c.index_mut-group.result.now ≡ spot = get_or_read groups pair.1 c.index_mut-group.result.now below c.index_mut-group.ensures.value no_spot in
    let same : c.take_room.new.self.0 ≡ spot.0 = c.take_room.ensures.key ∙ ap (λ (s : Spot). s.0) read in
    full_kept groups (rising c.args.places.now.entries) pair.1 c.take_room.new.self c.loop-first.invariant.full below same

pub returns-clause-room : goal.returns-clause-room
returns-clause-room c = λ every counted.
    let was = c.loop-first.invariant.begun every counted in
    let pairs = c.args.places.now.entries in
    let places = rising pairs in
    none_filled every places was.0 c.loop-first.groups.items c.loop-first.list.items (sorted_rising pairs c.iter-left.ensures.ordered) counted.absent
    (subst (λ (l : List (TableEntry × ℕ)). Begun every places was.0 l c.loop-first.groups.items (length c.loop-first.list.items)) (ap rising c.in_default.ensures.steps.0) was.1)

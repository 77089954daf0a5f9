use Rattle.std.proofs.Common.{◌≡◌, ◌∙◌, ◌*◌, ℕ, true, false, length, slice_get, Option, Some, set, ap, sym, subst, arith}
use Rattle.std.proofs.lemmas.Option.{slice_get_within}
use Rattle.std.proofs.Math.Seq.{paste}
use Rattle.bep_record.specs.Block.{block_size_of}
use Rattle.bep_record.specs.declared.entry.Entry.{Entry}
use Rattle.bep_record.specs.declared.node.NodeParts.{NodeParts}
use Rattle.bep_machine.specs.Replica.{Pull}
use Rattle.bep_folder.specs.PullNode.{bytes_in, sized, with_file}
use Rattle.bep_folder.specs.Pull.{AreOfBlockAt, IsKept, received_of, with_bytes}
use Rattle.bep_folder.proofs.PullFacts.{flag_missing, received_again}
use Rattle.bep_folder.proofs.KeptFacts.{IsPiece, is_piece, kept_after, piece_in, received_after}
use Rattle.bep_folder.proofs.pull.Pull.add.Goals as goal

pub returns-then-is_set-clause-ok : goal.returns-then-is_set-clause-ok
returns-then-is_set-clause-ok c =
    let set : slice_get c.self.inside.arrived.items c.args.place ≡ Some true =
    rw c.deref.ensures.value at (c.is_set.ensures.0 c.if-is_set.true) in
    subst (λ (pull : Pull). pull ≡ with_bytes pull c.args.place c.args.bytes.now) c.self.view_is
    (ap (λ received. record { target = c.self.inside.target; received = received })
    (sym (received_again (block_size_of c.self.inside.target.size) c.self.inside.arrived.items (bytes_in c.self.inside.node) c.args.bytes.now c.args.place set)))

pub overflow_mul-offset : goal.overflow_mul-offset
overflow_mul-offset c =
    let at = subst (λ (pull : Pull). AreOfBlockAt pull.target.blocks c.args.place c.args.bytes.now) (sym c.self.view_is) c.requires in
    let piece : IsPiece c.self.inside.target c.args.place c.args.bytes.now =
    is_piece c.self.inside.target c.args.place c.args.bytes.now c.self.invariant.formed at in
    let size : c.bytes.result ≡ block_size_of c.self.inside.target.size = c.bytes.ensures.value ∙ c.block_size.ensures in
    let most = piece.most in
    let within = piece.within in
    rw size (omega (arith, most, within))

pub put_bytes-requires-clause-within : goal.put_bytes-requires-clause-within
put_bytes-requires-clause-within c =
    let at = subst (λ (pull : Pull). AreOfBlockAt pull.target.blocks c.args.place c.args.bytes.now) (sym c.self.view_is) c.requires in
    let piece : IsPiece c.self.inside.target c.args.place c.args.bytes.now =
    is_piece c.self.inside.target c.args.place c.args.bytes.now c.self.invariant.formed at in
    let size : c.bytes.result ≡ block_size_of c.self.inside.target.size = c.bytes.ensures.value ∙ c.block_size.ensures in
    let within = piece.within in
    rw (c.entry.ensures.value, size) within

pub index_mut-requires : goal.index_mut-requires
index_mut-requires c =
    let at = subst (λ (pull : Pull). AreOfBlockAt pull.target.blocks c.args.place c.args.bytes.now) (sym c.self.view_is) c.requires in
    let within = slice_get_within c.self.inside.target.blocks c.args.place at.0 at.1 in
    let flags = c.self.invariant.flags in
    let items = ap length c.deref.ensures.value in
    let len = c.deref.ensures.len in
    omega (arith, within, flags, items, len)

pub invariant_of-self-2 : goal.invariant_of-self-2
invariant_of-self-2 c =
    let at = subst (λ (pull : Pull). AreOfBlockAt pull.target.blocks c.args.place c.args.bytes.now) (sym c.self.view_is) c.requires in
    let piece : IsPiece c.self.inside.target c.args.place c.args.bytes.now =
    is_piece c.self.inside.target c.args.place c.args.bytes.now c.self.invariant.formed at in
    let size : c.bytes.result ≡ block_size_of c.self.inside.target.size = c.bytes.ensures.value ∙ c.block_size.ensures in
    let node : c.put_bytes.new.node ≡ piece_in c.self.inside.target c.self.inside.node c.args.place c.args.bytes.now =
    c.in_ok-put_bytes.ensures.ok
    ∙ ap (λ (entry : Entry). with_file c.self.inside.node (paste (sized entry.size (bytes_in c.self.inside.node)) (c.args.place * c.bytes.result) c.args.bytes.now (length c.args.bytes.now))) c.entry.ensures.value
    ∙ ap (λ (n : ℕ). with_file c.self.inside.node (paste (sized c.self.inside.target.size (bytes_in c.self.inside.node)) (c.args.place * n) c.args.bytes.now (length c.args.bytes.now))) size in
    subst (λ (held : Option NodeParts). IsKept c.self.inside.target held (set c.self.inside.arrived.items c.args.place true)) (sym node)
    (kept_after c.self.inside.target c.self.inside.node c.self.inside.arrived.items c.self.invariant c.args.place c.args.bytes.now piece)

pub returns-clause-ok : goal.returns-clause-ok
returns-clause-ok c =
    let at = subst (λ (pull : Pull). AreOfBlockAt pull.target.blocks c.args.place c.args.bytes.now) (sym c.self.view_is) c.requires in
    let piece : IsPiece c.self.inside.target c.args.place c.args.bytes.now =
    is_piece c.self.inside.target c.args.place c.args.bytes.now c.self.invariant.formed at in
    let within = slice_get_within c.self.inside.target.blocks c.args.place at.0 at.1 in
    let counted = c.self.invariant.flags in
    let unset : ¬ (slice_get c.self.inside.arrived.items c.args.place ≡ Some true) =
    λ is. absurd (let answer : false ≡ true = (rw c.deref.ensures.value at c.if-is_set.ensures.1) is in cc) in
    let missing = flag_missing c.self.inside.arrived.items c.args.place (omega (arith, within, counted)) unset in
    let size : c.bytes.result ≡ block_size_of c.self.inside.target.size = c.bytes.ensures.value ∙ c.block_size.ensures in
    let node : c.put_bytes.new.node ≡ piece_in c.self.inside.target c.self.inside.node c.args.place c.args.bytes.now =
    c.in_ok-put_bytes.ensures.ok
    ∙ ap (λ (entry : Entry). with_file c.self.inside.node (paste (sized entry.size (bytes_in c.self.inside.node)) (c.args.place * c.bytes.result) c.args.bytes.now (length c.args.bytes.now))) c.entry.ensures.value
    ∙ ap (λ (n : ℕ). with_file c.self.inside.node (paste (sized c.self.inside.target.size (bytes_in c.self.inside.node)) (c.args.place * n) c.args.bytes.now (length c.args.bytes.now))) size in
    ap (λ received. record { target = c.self.inside.target; received = received })
    (ap (λ (held : Option NodeParts). received_of (block_size_of c.self.inside.target.size) (set c.self.inside.arrived.items c.args.place true) (bytes_in held)) node
    ∙ received_after c.self.inside.target c.self.inside.node c.self.inside.arrived.items c.self.invariant c.args.place c.args.bytes.now piece missing)
    ∙ ap (λ (pull : Pull). with_bytes pull c.args.place c.args.bytes.now) c.self.view_is

use Rattle.std.proofs.Common.{◌≡◌, ◌++◌, take, drop}
use Rattle.bep_lines.specs.Text.{pieces_text}
use Rattle.bep_lines.proofs.text.push_pieces.Given as goal

-- the text, with the pieces that are left, is the text with all of them; the old text stands at its front
abbrev pub invariant-loop-piece : goal.invariant-loop-piece
invariant-loop-piece l =
    record {
      whole : l.text.items ++ pieces_text (drop l.piece-index l.pieces) ≡ l.fn.text.items ++ pieces_text l.pieces;
      front : take l.len l.text.items ≡ l.fn.text.items;
    }

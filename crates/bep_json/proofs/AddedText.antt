-- The text of a value that was written part by part is that of its tree, and reads as it.
use Rattle.std.proofs.Common.{◌≡◌, ◌≤◌, ℕ, suc, List, [], ◌++◌, Some, option_and_then, refl, sym, ap, ◌∙◌, arith, append-nil}
use Rattle.json.specs.Lex.{tokens}
use Rattle.json.specs.Print.{print}
use Rattle.json.specs.Json as json
use Rattle.json.specs.Tree as tree
use Rattle.json.specs.Tree.{json_tokens}
use Rattle.json.specs.Written.{Written}
use Rattle.json.proofs.Printed.Trees.{value-json_tokens}
use Rattle.serde_json.specs.Data.{Data, null, boolean, number, string, array, object, Items, no_items, item, Members, no_members, member, depth, items_depth, members_depth}
use Rattle.serde_json.specs.Read.{read, of_json, max_depth}
use Rattle.serde_json.specs.Written.{outline, items_outline, members_outline}
use Rattle.serde_json.proofs.Texts.{print-outline}
use Rattle.bep_json.specs.Added.{IsReadable, TellsWhatWasAdded}

mutual
  depth_outline : (d : Data) → tree.depth (outline d) ≡ depth d
  depth_outline null = refl
  depth_outline (boolean b) = refl
  depth_outline (number n) = refl
  depth_outline (string s) = refl
  depth_outline (array ds) = ap suc (depth_items_outline ds)
  depth_outline (object ms) = ap suc (depth_members_outline ms)

  depth_items_outline : (ds : Items) → tree.items_depth (items_outline ds) ≡ items_depth ds
  depth_items_outline no_items = refl
  depth_items_outline (item d ds) = omega (arith, depth_outline d, depth_items_outline ds)

  depth_members_outline : (ms : Members) → tree.members_depth (members_outline ms) ≡ members_depth ms
  depth_members_outline no_members = refl
  depth_members_outline (member k d ms) = omega (arith, depth_outline d, depth_members_outline ms)

-- a text with the tokens of a value reads as it
text_reads : (d : Data) (text : List ℕ) → IsReadable d → tokens text ≡ json_tokens (outline d) → depth d ≤ max_depth → read text ≡ Some d
text_reads d text is same shallow =
    ap (λ o. option_and_then of_json (option_and_then (λ p. json.if_last p.0 p.1) o))
    (ap (json.value max_depth) (same ∙ sym (append-nil (json_tokens (outline d)))) ∙ value-json_tokens (outline d) max_depth [] (omega (arith, depth_outline d))) ∙ is.reads

pub text_is : (out : Written) (text : List ℕ) → text ≡ print out.tokens → tokens text ≡ out.tokens → TellsWhatWasAdded out text
text_is out text printed back d start none adds =
    let same : out.tokens ≡ json_tokens (outline d) = adds.follow.tokens ∙ ap (λ l. l ++ json_tokens (outline d)) none in record {
      compact = printed ∙ ap print same ∙ print-outline d;
      in_order = (outline d, back ∙ same, adds.readable.whole);
      reads = text_reads d text adds.readable (back ∙ same);
    }

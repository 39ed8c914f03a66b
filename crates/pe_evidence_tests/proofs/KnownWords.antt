-- Words of rails as a graph grows.
use Rattle.std.proofs.Common.{◌≡◌, ℕ, ◌+◌, List, [], ◌∷◌, ◌++◌, length, arith}
use Rattle.std.specs.Prelude.{All}
use Rattle.std.proofs.lemmas.List.{length_push}
use Rattle.std.proofs.lemmas.List.Elements.{All-push}
use Rattle.pe_graph.specs.declared.graph.Node.{Node}
use Rattle.pe_graph.specs.Nodes.{Grows}
use Rattle.pe_graph.proofs.Growth.{grows_not, grows_on}
use Rattle.pe_rail_ops.specs.declared.bit.Rail.{Rail}
use Rattle.pe_rail_ops.specs.Rails.{IsRail}
use Rattle.pe_rail_ops.proofs.Rails.{rails_kept}

-- the graph has grown, and so many rails of it are a word
pub record IsWord (old new : List Node) (count : ℕ) (word : List Rail) : Type 0 where
  pub width : length word ≡ count
  pub rails : All (IsRail new) word
  pub grows : Grows old new

pub no_word : (nodes : List Node) → IsWord nodes nodes 0 []
no_word nodes = record { width = omega arith; rails = λ k d h. absurd (omega arith); grows = grows_not nodes }

pub word_more : (g0 g1 g2 : List Node) (count : ℕ) (word more : List Rail) (r : Rail) → IsWord g0 g1 count word → Grows g1 g2 → IsRail g2 r → more ≡ word ++ r ∷ [] → IsWord g0 g2 (count + 1) more
word_more g0 g1 g2 count word more r w g h is = rw is (record {
  width = let n = w.width in let m = length_push word r in omega arith;
  rails = All-push (IsRail g2) word r (rails_kept g1 g2 word g w.rails) h;
  grows = grows_on g0 g1 g2 w.grows g;
})

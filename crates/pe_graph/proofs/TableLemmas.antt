-- The links of a bucket.
use Rattle.std.proofs.Common.{◌≡◌, ◌≢◌, ℕ, zero, suc, ◌<◌, ◌≤◌, List, ◌++◌, length, refl, sym, ap, ◌∙◌, arith, inl, inr}
use Rattle.std.proofs.lemmas.List.{get_or_append_left}
use Rattle.pe_graph.specs.declared.graph.Node.TheVariants.{True}
use Rattle.std.specs.Prelude.{slice_index}
use Rattle.std.proofs.lemmas.Bool.{cases_lt}
use Rattle.std.proofs.lemmas.Bool.Decides.{eqb_tells}
use Rattle.pe_graph.specs.declared.graph.Node.{Node}
use Rattle.pe_graph.specs.Nodes.{node_at}
use Rattle.pe_graph.specs.Table.{bucket_of, newest, IsLinked}

-- whether one more node is the newest of the bucket
pub data IsNewest (size : ℕ) (nodes : List Node) (i b : ℕ) : Type 0 where
  yes : bucket_of size (node_at nodes i) ≡ b → newest size nodes (suc i) b ≡ suc i → IsNewest size nodes i b
  no : bucket_of size (node_at nodes i) ≢ b → newest size nodes (suc i) b ≡ newest size nodes i b → IsNewest size nodes i b

pub is_newest : (size : ℕ) (nodes : List Node) (i b : ℕ) → IsNewest size nodes i b
is_newest size nodes i b =
    elim (eqb_tells (bucket_of size (node_at nodes i)) b) [
      | inl t ↦ yes t.1 (rw t.0 refl)
      | inr f ↦ no f.1 (rw f.0 refl)
    ]

-- the newest of the first n is among them
pub newest_below : (size : ℕ) (nodes : List Node) (n b : ℕ) → newest size nodes n b ≤ n
newest_below size nodes zero b = omega arith
newest_below size nodes (suc i) b =
    let below = newest_below size nodes i b in
    elim (is_newest size nodes i b) [ yes e is ↦ omega arith | no e is ↦ omega arith ]

-- the newest of the first n is the newest of those up to it
pub newest-newest : (size : ℕ) (nodes : List Node) (n b : ℕ) → newest size nodes (newest size nodes n b) b ≡ newest size nodes n b
newest-newest size nodes zero b = refl
newest-newest size nodes (suc i) b =
    elim (is_newest size nodes i b) [
      | yes e is ↦ ap (λ n. newest size nodes n b) is
      | no e is ↦ ap (λ n. newest size nodes n b) is ∙ newest-newest size nodes i b ∙ sym is
    ]

-- no later one is in the bucket
pub newest_past : (size : ℕ) (nodes : List Node) (n b j : ℕ) → newest size nodes n b ≤ j → j < n → bucket_of size (node_at nodes j) ≢ b
newest_past size nodes zero b j h l = absurd (omega arith)
newest_past size nodes (suc i) b j h l =
    elim (is_newest size nodes i b) [
      | yes e is ↦ absurd (omega arith)
      | no e is ↦ elim (cases_lt j i) [
        | inl lt ↦ newest_past size nodes i b j (omega arith) lt
        | inr ge ↦ let at_i : j ≡ i = omega arith in rw at_i e
      ]
    ]

-- what is passed on a walk along a bucket: the place is the bucket's own, and the node stands nowhere after it
pub record IsWalk (nodes : List Node) (size : ℕ) (node : Node) (after : ℕ) : Type 0 where
  pub within : after ≤ length nodes
  pub own : newest size nodes after (bucket_of size node) ≡ after
  pub past : (j : ℕ) → after ≤ j → j < length nodes → node_at nodes j ≢ node

-- the place of the bucket's newest of the first n, where the node stands nowhere from n on
pub walk_from : (nodes : List Node) (size : ℕ) (node : Node) (n : ℕ) → n ≤ length nodes → ((j : ℕ) → n ≤ j → j < length nodes → node_at nodes j ≢ node) → IsWalk nodes size node (newest size nodes n (bucket_of size node))
walk_from nodes size node n h none =
    let b = bucket_of size node in
    let below = newest_below size nodes n b in
    record {
      within = omega arith;
      own = newest-newest size nodes n b;
      past = λ j ge lt. elim (cases_lt j n) [
        | inl before ↦ λ e. newest_past size nodes n b j ge before (ap (bucket_of size) e)
        | inr after ↦ none j after lt
      ];
    }

-- a node of the bucket that is not the one that is looked for is passed
pub walk_on : (nodes : List Node) (heads earlier : List ℕ) (node : Node) (after var : ℕ) → IsLinked nodes (length nodes) heads earlier → after ≡ suc var → IsWalk nodes (length heads) node after → node_at nodes var ≢ node → IsWalk nodes (length heads) node (slice_index earlier var)
walk_on nodes heads earlier node after var linked step walk other =
    let size = length heads in
    let b = bucket_of size node in
    let within = walk.within in
    let below = newest_below size nodes var b in
    let here : newest size nodes (suc var) b ≡ suc var = rw step at walk.own in
    let own : bucket_of size (node_at nodes var) ≡ b =
    elim (is_newest size nodes var b) [ yes e is ↦ e | no e is ↦ absurd (omega arith) ] in
    let next : slice_index earlier var ≡ newest size nodes var b = linked.earlier_are var (omega arith) ∙ ap (newest size nodes var) own in
    rw next (walk_from nodes size node var (omega arith) (λ j ge lt. elim (cases_lt var j) [
      | inl past ↦ walk.past j (omega arith) lt
      | inr before ↦ let at : var ≡ j = omega arith in rw at at other
    ]))

-- each place is before the one that led to it
pub walk_falls : (nodes : List Node) (heads earlier : List ℕ) (var : ℕ) → IsLinked nodes (length nodes) heads earlier → var < length nodes → slice_index earlier var ≤ var
walk_falls nodes heads earlier var linked lt =
    let below = newest_below (length heads) nodes var (bucket_of (length heads) (node_at nodes var)) in
    rw (linked.earlier_are var lt) below

-- what stands behind the first n does not count
pub newest-append : (size : ℕ) (nodes more : List Node) (n b : ℕ) → n ≤ length nodes → newest size (nodes ++ more) n b ≡ newest size nodes n b
newest-append size nodes more zero b h = refl
newest-append size nodes more (suc i) b h =
    let before = newest-append size nodes more i b (omega arith) in
    let here : node_at (nodes ++ more) i ≡ node_at nodes i = get_or_append_left nodes more True i (omega arith) in
    cc

-- nodes that are put behind the others wait for their links
pub linked_front : (nodes more new : List Node) (heads earlier : List ℕ) → IsLinked nodes (length nodes) heads earlier → new ≡ nodes ++ more → length new ≤ length earlier → IsLinked new (length nodes) heads earlier
linked_front nodes more new heads earlier linked is room = rw is (record {
  some = linked.some;
  room = rw is at room;
  heads_are = λ b h. rw (newest-append (length heads) nodes more (length nodes) b (omega arith)) (linked.heads_are b h);
  earlier_are = λ i h.
      rw (get_or_append_left nodes more True i h, newest-append (length heads) nodes more i (bucket_of (length heads) (node_at nodes i)) (omega arith)) (linked.earlier_are i h);
})

use Rattle.std.proofs.Common.{◌≡◌, true, length, get_or, List, ℕ, ap, sym, ◌∙◌, subst, arith}
use Rattle.pe_base.specs.Names.{has_name}
use Rattle.pe_supply.specs.Labels.{AreApart, AreCounted, AreLabelled}
use Rattle.pe_supply.specs.Numbers.{distinct}
use Rattle.pe_supply.proofs.Counting.{numbered}
use Rattle.pe_supply.proofs.Naming.{distinct_apart, distinct_has}
use Rattle.pe_supply.proofs.numbers.number_names.Goals as goal

pub label-requires : goal.label-requires
label-requires c =
    let made = c.args.made.now in
    let ties = c.args.ties.now in
    let names : c.as_slice.result.now ≡ distinct made = c.as_slice.ensures ∙ c.in_ok-names.ensures in
    let has : (n : List ℕ) → has_name made n ≡ true → has_name c.as_slice.result.now n ≡ true = λ n e. ap (λ ns. has_name ns n) names ∙ distinct_has made n ∙ e in
    record {
      apart = subst AreApart (sym names) (distinct_apart made);
      few = omega (arith, ap length c.as_slice.ensures, c.len.ensures, c.if-len.false);
      ports = λ k d l. has (get_or ties k d).0 (c.requires.ports k d l);
      nets = λ k d l. has (get_or ties k d).1 (c.requires.nets k d l);
    }

pub returns : goal.returns
returns c =
    let made = c.args.made.now in
    let ties = c.args.ties.now in
    let names = c.in_ok-names.names in
    let labels = c.in_ok-labels.labels in
    let numbers = c.in_ok-numbers.numbers in
    let labelled : AreLabelled names ties labels = subst (λ ns. AreLabelled ns ties labels) c.as_slice.ensures c.in_ok-labels.ensures in
    let counted : AreCounted labels (length labels) numbers = subst (λ ls. AreCounted ls (length ls) numbers) c.as_slice-2.ensures c.in_ok-numbers.ensures in
    numbered made names ties labels numbers c.in_ok-pairs.pairs c.in_ok-names.ensures labelled counted (c.in_ok-pairs.ensures.names ∙ c.as_slice-3.ensures) (c.in_ok-pairs.ensures.numbers ∙ c.as_slice-4.ensures)

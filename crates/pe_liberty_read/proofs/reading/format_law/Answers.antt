use Rattle.std.proofs.Common.{ℕ, List, refl, sym, ◌∙◌, subst}
use Rattle.pe_grammar.proofs.Same.{from_table, to_table}
use Rattle.pe_grammar.specs.Written.{rule}
use Rattle.pe_liberty_read.specs.Format.{plain_of, IsGroup, IsByFormat, BeginsWithLibrary}
use Rattle.pe_liberty_read.specs.LibertyGrammar.{liberty_grammar}
use Rattle.pe_liberty_read.specs.Reading.{IsLiberty}
use Rattle.pe_liberty_read.specs.declared.liberty_table.TheConstants.{LIBERTY, AT_LIBRARY}
use Rattle.pe_liberty_read.specs.declared.tree.Group.{Group}
use Rattle.pe_liberty_read.proofs.Walk.{terminals_walked}
use Rattle.pe_liberty_read.proofs.GroupFromTable.{read_library}
use Rattle.pe_liberty_read.proofs.ToTable.{make_library}
use Rattle.pe_liberty_read.proofs.reading.format_law.Goals as goal

by_format : (text : List ℕ) (g : Group) → IsLiberty text g → IsByFormat text g
by_format text g p =
    let s = p.2.spelled in
    let l = read_library text p.0 p.1 (from_table LIBERTY liberty_grammar refl p.1 AT_LIBRARY (rule 0) refl s.derives) (plain_of text p.0) (sym (terminals_walked text p.0) ∙ sym s.spelled) in
    (p.0, p.2.scanned, subst (λ x. IsGroup text p.0 (plain_of text p.0) x) (sym p.3) l.are, subst (λ ts. BeginsWithLibrary ts) (sym l.is) l.kind)

by_grammar : (text : List ℕ) (g : Group) → IsByFormat text g → IsLiberty text g
by_grammar text g q =
    let m = make_library text q.0 (plain_of text q.0) g q.2 q.3 in (
      q.0,
      m.made,
      record {
        scanned = q.1;
        spelled = record { derives = to_table LIBERTY liberty_grammar refl m.made AT_LIBRARY (rule 0) refl m.is; spelled = m.spells ∙ sym (terminals_walked text q.0) };
      },
      m.means,
    )

pub returns : goal.returns
returns c = record { by_rules = λ text g. (by_format text g, by_grammar text g) }

-- A text over the limit that stands for a file over it is refused as the file is.
use Rattle.std.proofs.Common.{◌≡◌, ◌≢◌, ℕ, ◌<◌, ◌≤◌, Bool, not, List, length, refl, subst, arith, inl, inr, Option, Ok, Err}
use Rattle.pe_base.specs.declared.text.Texts.{Texts}
use Rattle.pe_grammar.specs.declared.form.Entry.{Entry}
use Rattle.pe_grammar.specs.declared.terminal.Token.{Token as Terminal}
use Rattle.pe_text.specs.declared.fault.ReadFault.{ReadFault}
use Rattle.pe_text.specs.declared.fault.ReadFault.TheVariants as fault
use Rattle.pe_text.specs.declared.language.Lang.{Lang}
use Rattle.pe_text.specs.declared.language.Lang.TheVariants as lang
use Rattle.pe_text.specs.declared.token.Token.{Token}
use Rattle.pe_text.specs.Scan.{most_bytes}
use Rattle.pe_reader.specs.Reading.{IsReadFault}
use Rattle.pe_verilog_ast.specs.declared.module.Module.{Module}
use Rattle.pe_verilog_ast.specs.declared.module.Source.{Source}
use Rattle.pe_verilog_read.specs.Reading.{IsVerilog, IsVerilogFault}
use Rattle.pe_upf_read.specs.declared.intent.Intent.{Intent}
use Rattle.pe_upf_read.specs.Spelling.{IsUpf, IsUpfFault}
use Rattle.pe_liberty_read.specs.declared.tree.Group.{Group}
use Rattle.pe_liberty_read.specs.Reading.{IsLiberty, IsReadFault as IsLibertyFault}
use Rattle.pe_compare.specs.declared.map.MapFile.{MapFile}
use Rattle.pe_compare.specs.MapReading.{IsMap, IsMapFault}
use Rattle.pe_assigns.specs.Form.{is_some_of}
use Rattle.pe_instances.specs.declared.parts.Netlist.{Netlist}
use Rattle.pe_instances.specs.Form.{netlist_in}
use Rattle.pe_intent.specs.Domain.{is_one_domain}
use Rattle.pe_design.specs.declared.design.Design.{Design}
use Rattle.pe_front.specs.declared.fault.CheckFault.TheVariants.{Refused}
use Rattle.pe_front.specs.declared.fault.Part.{Part}
use Rattle.pe_front.specs.declared.fault.Part.TheVariants.{Rtl, Upf, Lib, Net, Map}
use Rattle.pe_front.specs.declared.fault.Fault.{Fault}
use Rattle.pe_front.specs.Points.{Answer, found, refused, TakenThen, formed, unformed, BuiltThen, built, unbuilt}
use Rattle.pe_front.specs.Given.{ReadThen, module_in, FromViews, FromMap, FromNet, FromLib, FromUpf, IsGiven, IsDesign}
use Rattle.pe_questions.specs.declared.answer.Answer.{Answer as Told}
use Rattle.pe_tool.specs.Reads.{StandsFor, StandFor}
use Rattle.pe_tool.specs.Equivalent.{IsReported}

-- five texts give one answer
abbrev pub OneAnswer : Type 0
OneAnswer = (t : Texts) (a b : Answer) → IsGiven t a → IsGiven t b → a ≡ b

-- why a text over the limit is refused, every text over it is
over_fault : (language : Lang) (kinds : List ℕ → List Token → List Terminal) (grammar : List Entry) (start : ℕ) (s t : List ℕ) (f : ReadFault) →
    most_bytes < length s → most_bytes < length t → f ≢ fault.Memory → IsReadFault language kinds grammar start s f → IsReadFault language kinds grammar start t f
over_fault language kinds grammar start s t f over other known (inl (inl (o, e))) = inl (inl (other, e))
over_fault language kinds grammar start s t f over other known (inl (inr (inl (short, bad)))) = absurd (omega (arith, over, short))
over_fault language kinds grammar start s t f over other known (inl (inr (inr (inl (tokens, short, cut, left))))) = absurd (omega (arith, over, short))
over_fault language kinds grammar start s t f over other known (inl (inr (inr (inr (tokens, allowed, wide))))) = absurd (let short = allowed.short in omega (arith, over, short))
over_fault language kinds grammar start s t fault.Memory over other known (inr wrong) = absurd (known refl)
over_fault language kinds grammar start s t (fault.Syntax at) over other known (inr (tokens, number, wrong)) = absurd (let short = wrong.scanned.is_allowed.short in omega (arith, over, short))
over_fault language kinds grammar start s t (fault.Unsupported at word) over other known (inr wrong) = absurd wrong
over_fault language kinds grammar start s t (fault.Limit at which) over other known (inr wrong) = absurd wrong

-- what is read has no more bytes
short_verilog : (language : Lang) (text : List ℕ) (x : Source) → IsVerilog language text x → length text ≤ most_bytes
short_verilog language text x h = h.1.1.scanned.is_allowed.short

short_upf : (text : List ℕ) (x : Intent) → IsUpf text x → length text ≤ most_bytes
short_upf text x (tokens, d, parsed, e) = parsed.scanned.is_allowed.short

short_liberty : (text : List ℕ) (x : Group) → IsLiberty text x → length text ≤ most_bytes
short_liberty text x (tokens, d, parsed, e) = parsed.scanned.is_allowed.short

short_map : (text : List ℕ) (x : MapFile) → IsMap text x → length text ≤ most_bytes
short_map text x (tokens, d, parsed, e) = parsed.scanned.is_allowed.short

-- a point of one text, for a text that stands for it
abbrev pub MayStand : (A : Type 0) → (List ℕ → A → Type 0) → (List ℕ → ReadFault → Type 0) → List ℕ → List ℕ → Type 0
MayStand A Spells IsFault text file =
    ((x : A) → Spells text x → length text ≤ most_bytes)
    × ((f : ReadFault) → most_bytes < length text → most_bytes < length file → f ≢ fault.Memory → IsFault text f → IsFault file f)

read_on : (A : Type 0) (Spells : List ℕ → A → Type 0) (IsFault : List ℕ → ReadFault → Type 0) (part : Part) (Next More : A → Answer → Type 0) (text file : List ℕ) (answer : Answer) →
    MayStand A Spells IsFault text file → StandsFor text file → ((x : A) → Next x answer → More x answer) →
    ReadThen A (Spells text) (IsFault text) part Next answer → ReadThen A (Spells file) (IsFault file) part More answer
read_on A Spells IsFault part Next More text file answer may (inl e) more (found x is next) = found x (subst (λ y. Spells y x) e is) (more x next)
read_on A Spells IsFault part Next More text file answer may (inl e) more (refused f is z) = refused f (is.0, subst (λ y. IsFault y f) e is.1) z
read_on A Spells IsFault part Next More text file answer may (inr over) more (found x is next) = absurd (let short = may.0 x is in let o = over.0 in omega (arith, o, short))
read_on A Spells IsFault part Next More text file answer may (inr over) more (refused f is z) = refused f (is.0, may.1 f over.0 over.1 is.0 is.1) z

taken_on : (A : Type 0) (taken : Option A) (part : Part) (Next More : A → Answer → Type 0) (answer : Answer) → ((x : A) → Next x answer → More x answer) → TakenThen A taken part Next answer → TakenThen A taken part More answer
taken_on A taken part Next More answer more (formed x e next) = formed x e (more x next)
taken_on A taken part Next More answer more (unformed e z) = unformed e z

built_on : (test : Bool) (part : Part) (Next More : Answer → Type 0) (answer : Answer) → (Next answer → More answer) → BuiltThen test part Next answer → BuiltThen test part More answer
built_on test part Next More answer more (built e next) = built e (more next)
built_on test part Next More answer more (unbuilt e z) = unbuilt e z

map_on : (s t : Texts) (m : Module) (intent : Intent) (library : Group) (n : Netlist) (answer : Answer) → StandFor s t → FromMap s m intent library n answer → FromMap t m intent library n answer
unfolding FromMap FromViews
map_on s t m intent library n answer stand =
    let Next : MapFile → Answer → Type 0 = λ map. BuiltThen (not (is_some_of map.lines)) Map (FromViews m intent library n) in
    read_on MapFile IsMap IsMapFault Map Next Next s.map t.map answer (short_map s.map, over_fault lang.Map _ _ _ s.map t.map) stand.map (λ x h. h)

net_on : (s t : Texts) (m : Module) (intent : Intent) (library : Group) (answer : Answer) → StandFor s t → FromNet s m intent library answer → FromNet t m intent library answer
unfolding FromNet FromMap
net_on s t m intent library answer stand =
    read_on Source (IsVerilog lang.Netlist) (IsVerilogFault lang.Netlist) Net
    (λ x. TakenThen Netlist (netlist_in x.modules) Net (FromMap s m intent library)) (λ x. TakenThen Netlist (netlist_in x.modules) Net (FromMap t m intent library)) s.net t.net answer
    (short_verilog lang.Netlist s.net, over_fault lang.Netlist _ _ _ s.net t.net) stand.net
    (λ x. taken_on Netlist (netlist_in x.modules) Net (FromMap s m intent library) (FromMap t m intent library) answer (λ n. map_on s t m intent library n answer stand))

lib_on : (s t : Texts) (m : Module) (intent : Intent) (answer : Answer) → StandFor s t → FromLib s m intent answer → FromLib t m intent answer
unfolding FromLib FromNet
lib_on s t m intent answer stand =
    read_on Group IsLiberty IsLibertyFault Lib (FromNet s m intent) (FromNet t m intent) s.lib t.lib answer
    (short_liberty s.lib, over_fault lang.Liberty _ _ _ s.lib t.lib) stand.lib
    (λ library. net_on s t m intent library answer stand)

upf_on : (s t : Texts) (m : Module) (answer : Answer) → StandFor s t → FromUpf s m answer → FromUpf t m answer
unfolding FromUpf FromLib
upf_on s t m answer stand =
    read_on Intent IsUpf IsUpfFault Upf
    (λ intent. BuiltThen (is_one_domain intent) Upf (FromLib s m intent)) (λ intent. BuiltThen (is_one_domain intent) Upf (FromLib t m intent)) s.upf t.upf answer
    (short_upf s.upf, over_fault lang.Upf _ _ _ s.upf t.upf) stand.upf
    (λ intent. built_on (is_one_domain intent) Upf (FromLib s m intent) (FromLib t m intent) answer (lib_on s t m intent answer stand))

-- an answer that texts give which stand for files, the files give
pub same_given : (s t : Texts) (answer : Answer) → StandFor s t → IsGiven s answer → IsGiven t answer
unfolding IsGiven FromUpf
same_given s t answer stand =
    read_on Source (IsVerilog lang.Rtl) (IsVerilogFault lang.Rtl) Rtl
    (λ x. TakenThen Module (module_in x.modules) Rtl (FromUpf s)) (λ x. TakenThen Module (module_in x.modules) Rtl (FromUpf t)) s.rtl t.rtl answer
    (short_verilog lang.Rtl s.rtl, over_fault lang.Rtl _ _ _ s.rtl t.rtl) stand.rtl
    (λ x. taken_on Module (module_in x.modules) Rtl (FromUpf s) (FromUpf t) answer (λ m. upf_on s t m answer stand))

pub same_reported : (s t : Texts) (d : Design) (answers : List Told) → StandFor s t → IsReported s d answers → IsReported t d answers
same_reported s t d answers stand r = record { given = same_given s t (Ok d) stand r.given; are = r.are }

-- texts give one design
pub one_of : OneAnswer → (t : Texts) (d e : Design) → IsDesign t d → IsDesign t e → d ≡ e
one_of one t d e x y = let z : Ok d ≡ Ok e = one t (Ok d) (Ok e) x y in cc

-- and not a design and a refusal
pub no_two : OneAnswer → (t : Texts) (d : Design) (part : Part) (fault : Fault) → IsDesign t d → IsGiven t (Err (Refused part fault)) → ⊥
no_two one t d part fault x y = let z : Ok d ≡ Err (Refused part fault) = one t (Ok d) (Err (Refused part fault)) x y in cc

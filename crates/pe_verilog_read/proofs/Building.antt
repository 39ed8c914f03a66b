-- From the parts of a derivation to its targets, statements and items.
use Rattle.std.proofs.Common.{◌≡◌, ℕ, ◌+◌, ◌<◌, length, drop, get_or, append_assoc, append-nil, List, [], ◌∷◌, ◌++◌, Bool, true, false, Option, refl, sym, ap, ◌∙◌}
use Rattle.std.specs.Prelude.{map}
use Rattle.pe_grammar.specs.declared.tree.Tree.{Tree}
use Rattle.pe_grammar.specs.Derivation.{Derivation, derivation, repeated, done, more, pair, left, right}
use Rattle.pe_grammar.specs.Lists.{second_part, seconds, listed}
use Rattle.pe_verilog_read.specs.Leaves.{name_of}
use Rattle.pe_verilog_read.specs.Items.{more_names_of, port_of}
use Rattle.pe_verilog_read.specs.Modules.{carried, head_port_of, declared_by, head_ports_of}
use Rattle.pe_verilog_ast.specs.declared.module.HeadPort.{HeadPort}
use Rattle.pe_verilog_ast.specs.declared.module.HeadPort.TheVariants.{Declared}
use Rattle.pe_verilog_ast.specs.declared.module.Port.{Port}
use Rattle.pe_verilog_read.proofs.Spellings.{drop-next}
use Rattle.pe_grammar.proofs.Lists.{each_value, list_values}
use Rattle.pe_verilog_ast.specs.declared.expression.Ex.{Ex}
use Rattle.pe_verilog_ast.specs.declared.statement.Stmt.{Stmt}
use Rattle.pe_verilog_ast.specs.declared.statement.Stmt.TheVariants.{Block, Case, If}
use Rattle.pe_verilog_ast.specs.declared.statement.Arm.{Arm}
use Rattle.pe_verilog_ast.specs.declared.target.Target.{Target}
use Rattle.pe_verilog_ast.specs.declared.target.Target.TheVariants.{Join}
use Rattle.pe_verilog_ast.specs.declared.expression.Ex.TheVariants.{Join as JoinEx}
use Rattle.pe_verilog_read.specs.Targets as targets
use Rattle.pe_verilog_read.specs.Targets.{target_of, targets_of, connected_of, connected_list_of, more_connected_of, next_connected_of}
use Rattle.pe_verilog_read.specs.Statements.{statement_of, statements_of, block_of, label_of, test_of, otherwise_of, cases_of, arm_of, arms_of, more_arms_of, labelled_of, default_of}
use Rattle.pe_verilog_read.specs.Expressions.{group_of, list_of}

-- what a list is made of, first the first
pub gathered : {A : Type 0} (next : Derivation → A) (many : Derivation → List A) → many done ≡ [] → ((d e : Derivation) → many (more d e) ≡ next d ∷ many e) →
    (rest : Derivation) (ts us : List Tree) (x : A) (none start all : List A) → rest ≡ repeated (map derivation ts) done → none ≡ [] → start ≡ none ++ x ∷ [] → us ≡ ts →
    all ≡ start ++ map (λ t. next (derivation t)) us → all ≡ x ∷ many rest
gathered next many nil cons rest ts us x none start all p n q r s =
    let begun : start ≡ x ∷ [] = q ∙ ap (λ xs. xs ++ x ∷ []) n in
    s
    ∙ ap (λ xs. xs ++ map (λ t. next (derivation t)) us) begun
    ∙ ap (λ xs. x ∷ map (λ t. next (derivation t)) xs) r
    ∙ ap (λ xs. x ∷ xs) (sym (each_value next many nil cons ts))
    ∙ ap (λ e. x ∷ many e) (sym p)

pub targets_shape : (w : ℕ → List ℕ) (d first : Derivation) (ts us : List Tree) (x : Target) (none start all : List Target) → d ≡ pair first (repeated (map derivation ts) done) →
    x ≡ target_of w first → none ≡ [] → start ≡ none ++ x ∷ [] → us ≡ ts → all ≡ start ++ map (λ t. targets.behind_of w (derivation t)) us → all ≡ targets_of w d
targets_shape w d first ts us x none start all p y n q r s =
    gathered (targets.behind_of w) (targets.others_of w) refl (λ a b. refl) _ ts us x none start all refl n q r s
    ∙ ap (λ v. v ∷ targets.others_of w (repeated (map derivation ts) done)) y
    ∙ sym (ap (targets_of w) p)

pub simples_shape : (w : ℕ → List ℕ) (d first : Derivation) (ts us : List Tree) (x : Ex) (none start all : List Ex) → d ≡ pair first (repeated (map derivation ts) done) →
    x ≡ connected_of w first → none ≡ [] → start ≡ none ++ x ∷ [] → us ≡ ts → all ≡ start ++ map (λ t. next_connected_of w (derivation t)) us → all ≡ connected_list_of w d
simples_shape w d first ts us x none start all p y n q r s =
    gathered (next_connected_of w) (more_connected_of w) refl (λ a b. refl) _ ts us x none start all refl n q r s
    ∙ ap (λ v. v ∷ more_connected_of w (repeated (map derivation ts) done)) y
    ∙ sym (ap (connected_list_of w) p)

pub arms_shape : (w : ℕ → List ℕ) (d first rest : Derivation) (ts us : List Tree) (x : Arm) (none start all : List Arm) → d ≡ pair first rest → rest ≡ repeated (map derivation ts) done →
    x ≡ arm_of w first → none ≡ [] → start ≡ none ++ x ∷ [] → us ≡ ts → all ≡ start ++ map (λ t. arm_of w (derivation t)) us → all ≡ arms_of w d
arms_shape w d first rest ts us x none start all p o y n q r s =
    gathered (arm_of w) (more_arms_of w) refl (λ a b. refl) rest ts us x none start all o n q r s
    ∙ ap (λ v. v ∷ more_arms_of w rest) y
    ∙ sym (ap (arms_of w) p)

pub block_shape : (w : ℕ → List ℕ) (d b r l s body e : Derivation) (ts us : List Tree) (name : Option (List ℕ)) (all : List Stmt) → d ≡ pair b r → r ≡ pair l s → s ≡ pair body e →
    body ≡ repeated (map derivation ts) done → us ≡ ts → all ≡ map (λ t. statement_of w (derivation t)) us → name ≡ label_of w l → Block name all ≡ block_of w d
block_shape w d b r l s body e ts us name all p q u v x y z =
    let shape : d ≡ pair b (pair l (pair body e)) = cc in
    let same : all ≡ statements_of w body =
    y ∙ ap (map (λ t. statement_of w (derivation t))) x ∙ sym (each_value (statement_of w) (statements_of w) refl (λ a c. refl) ts) ∙ ap (statements_of w) (sym v) in
    ap (λ n. Block n all) z ∙ ap (Block (label_of w l)) same ∙ sym (ap (block_of w) shape)

-- the values of a list, first the first
pub values_shape : {A : Type 0} (value : Derivation → A) (d first : Derivation) (ts us : List Tree) (x : A) (none start all : List A) →
    d ≡ pair first (repeated (map derivation ts) done) → x ≡ value first → none ≡ [] → start ≡ none ++ x ∷ [] → us ≡ ts →
    all ≡ start ++ map (λ t. value (second_part (derivation t))) us → all ≡ map value (listed d)
values_shape value d first ts us x none start all p y n q r s =
    let begun : start ≡ x ∷ [] = q ∙ ap (λ xs. xs ++ x ∷ []) n in
    s
    ∙ ap (λ xs. xs ++ map (λ t. value (second_part (derivation t))) us) begun
    ∙ ap (λ xs. x ∷ map (λ t. value (second_part (derivation t))) xs) r
    ∙ ap (λ v. v ∷ map (λ t. value (second_part (derivation t))) ts) y
    ∙ sym (list_values value d first ts p)

pub target_join_shape : (w : ℕ → List ℕ) (d j o r l k : Derivation) (all : List Target) → d ≡ left j → j ≡ pair o r → r ≡ pair l k → all ≡ targets_of w l → Join all ≡ target_of w d
target_join_shape w d j o r l k all p q u v =
    let shape : d ≡ left (pair o (pair l k)) = cc in
    ap Join v ∙ sym (ap (target_of w) shape)

pub simple_join_shape : (w : ℕ → List ℕ) (d j o r l k : Derivation) (all : List Ex) → d ≡ left j → j ≡ pair o r → r ≡ pair l k → all ≡ connected_list_of w l → JoinEx all ≡ connected_of w d
simple_join_shape w d j o r l k all p q u v =
    let shape : d ≡ left (pair o (pair l k)) = cc in
    ap JoinEx v ∙ sym (ap (connected_of w) shape)

pub cases_shape : (w : ℕ → List ℕ) (wild : Bool) (d k r s q a e : Derivation) (subject : Ex) (arms : List Arm) → d ≡ pair k r → r ≡ pair s q → q ≡ pair a e →
    subject ≡ group_of w s → arms ≡ arms_of w a → Case wild subject arms ≡ cases_of w wild d
cases_shape w wild d k r s q a e subject arms f g h i j =
    let shape : d ≡ pair k (pair s (pair a e)) = cc in
    ap (λ v. Case wild v arms) i ∙ ap (Case wild (group_of w s)) j ∙ sym (ap (cases_of w wild) shape)

abbrev pub arm : List Ex → Stmt → Arm
arm labels body = record { labels = labels; body = body }

pub labelled_shape : (w : ℕ → List ℕ) (d l r c b : Derivation) (labels : List Ex) (body : Stmt) → d ≡ pair l r → r ≡ pair c b →
    labels ≡ list_of w l → body ≡ statement_of w b → arm labels body ≡ labelled_of w d
labelled_shape w d l r c b labels body f g h i =
    let shape : d ≡ pair l (pair c b) = cc in
    ap (λ v. arm v body) h ∙ ap (arm (list_of w l)) i ∙ sym (ap (labelled_of w) shape)

pub default_shape : (w : ℕ → List ℕ) (d k r c b : Derivation) (labels : List Ex) (body : Stmt) → d ≡ pair k r → r ≡ pair c b →
    labels ≡ [] → body ≡ statement_of w b → arm labels body ≡ default_of w d
default_shape w d k r c b labels body f g h i =
    let shape : d ≡ pair k (pair c b) = cc in
    ap (λ v. arm v body) h ∙ ap (arm []) i ∙ sym (ap (default_of w) shape)

pub test_shape : (w : ℕ → List ℕ) (d k r g q b t : Derivation) (cond : Ex) (body : Stmt) (other : Option Stmt) → d ≡ pair k r → r ≡ pair g q → q ≡ pair b t →
    cond ≡ group_of w g → body ≡ statement_of w b → other ≡ otherwise_of w t → If cond body other ≡ test_of w d
test_shape w d k r g q b t cond body other e f h i j l =
    let shape : d ≡ pair k (pair g (pair b t)) = cc in
    ap (λ v. If v body other) i ∙ ap (λ v. If (group_of w g) v other) j ∙ ap (If (group_of w g) (statement_of w b)) l ∙ sym (ap (test_of w) shape)

pub in_test : (w : ℕ → List ℕ) (d a x : Derivation) → d ≡ right a → a ≡ left x → test_of w x ≡ statement_of w d
in_test w d a x e f = sym (ap (statement_of w) (e ∙ ap right f))

pub in_cases : (w : ℕ → List ℕ) (d a b x : Derivation) → d ≡ right a → a ≡ right b → b ≡ left x → cases_of w false x ≡ statement_of w d
in_cases w d a b x e f g = let shape : d ≡ right (right (left x)) = cc in sym (ap (statement_of w) shape)

pub in_wild_cases : (w : ℕ → List ℕ) (d a b c x : Derivation) → d ≡ right a → a ≡ right b → b ≡ right c → c ≡ left x → cases_of w true x ≡ statement_of w d
in_wild_cases w d a b c x e f g h = let shape : d ≡ right (right (right (left x))) = cc in sym (ap (statement_of w) shape)

-- the names behind commas
pub more_names_shape : (w : ℕ → List ℕ) (d : Derivation) (ts us : List Tree) (all : List (List ℕ)) → d ≡ repeated (map derivation ts) done → us ≡ ts →
    all ≡ map (λ t. name_of w (second_part (derivation t))) us → all ≡ more_names_of w d
more_names_shape w d ts us all p q r =
    r
    ∙ ap (map (λ t. name_of w (second_part (derivation t)))) q
    ∙ sym (each_value (λ v. name_of w (second_part v)) (λ v. map (name_of w) (seconds v)) refl (λ a b. refl) ts)
    ∙ sym (ap (more_names_of w) p)

-- the values of what is repeated
pub repeated_shape : {A : Type 0} (one : Derivation → A) (many : Derivation → List A) → many done ≡ [] → ((d e : Derivation) → many (more d e) ≡ one d ∷ many e) →
    (d : Derivation) (ts us : List Tree) (all : List A) → d ≡ repeated (map derivation ts) done → us ≡ ts → all ≡ map (λ t. one (derivation t)) us → all ≡ many d
repeated_shape one many nil cons d ts us all p q r =
    r ∙ ap (map (λ t. one (derivation t))) q ∙ sym (each_value one many nil cons ts) ∙ sym (ap many p)

-- one port of a head more
pub carried_step : (w : ℕ → List ℕ) (ts : List Tree) (i : ℕ) (r : Tree) (start all after : List HeadPort) (last last' c p : Derivation) (port : HeadPort) → i < length ts →
    r ≡ get_or ts i r → derivation r ≡ pair c p → start ≡ all ++ carried w last (repeated (map derivation (drop i ts)) done) → port ≡ head_port_of w last p →
    last' ≡ declared_by last p → after ≡ all ++ port ∷ [] → start ≡ after ++ carried w last' (repeated (map derivation (drop (i + 1) ts)) done)
carried_step w ts i r start all after last last' c p port h e shape so_far is_port is_last is_after =
    let rest = repeated (map derivation (drop (i + 1) ts)) done in
    let next : repeated (map derivation (drop i ts)) done ≡ more (pair c p) rest =
    ap (λ us. repeated (map derivation us) done) (drop-next i ts r h) ∙ ap (λ t. more (derivation t) rest) (sym e) ∙ ap (λ d. more d rest) shape in
    so_far
    ∙ ap (λ d. all ++ carried w last d) next
    ∙ ap (λ x. all ++ x ∷ carried w (declared_by last p) rest) (sym is_port)
    ∙ ap (λ d. all ++ port ∷ carried w d rest) (sym is_last)
    ∙ sym (append_assoc all (port ∷ []) (carried w last' rest))
    ∙ ap (λ xs. xs ++ carried w last' rest) (sym is_after)

pub head_ports_shape : (w : ℕ → List ℕ) (d first last : Derivation) (ts us : List Tree) (port : Port) (none start all : List HeadPort) →
    d ≡ pair first (repeated (map derivation ts) done) → port ≡ port_of w first → none ≡ [] → start ≡ none ++ Declared port ∷ [] → us ≡ [] →
    start ++ carried w first (repeated (map derivation ts) done) ≡ all ++ carried w last (repeated (map derivation us) done) → all ≡ head_ports_of w d
head_ports_shape w d first last ts us port none start all p y n q u s =
    let begun : start ≡ Declared port ∷ [] = q ∙ ap (λ xs. xs ++ Declared port ∷ []) n in
    sym (append-nil all)
    ∙ ap (λ vs. all ++ carried w last (repeated (map derivation vs) done)) (sym u)
    ∙ sym s
    ∙ ap (λ xs. xs ++ carried w first (repeated (map derivation ts) done)) begun
    ∙ ap (λ x. Declared x ∷ carried w first (repeated (map derivation ts) done)) y
    ∙ sym (ap (head_ports_of w) p)

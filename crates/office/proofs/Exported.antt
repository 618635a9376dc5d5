-- What an export says of a language's text, by the entries that its sink took.
use Rattle.std.proofs.Common.{◌≡◌, ◌≢◌, ℕ, List, [], ◌∷◌, ◌++◌, Bool, true, false, Option, Some, None, option_map, refl, sym, ap, subst, ◌∙◌}
use Rattle.std.specs.Prelude.{flat_map, unwrap_or}
use Rattle.std.specs.Option.{option_map_or}
use Rattle.std.proofs.lemmas.Bool.{false≢true}
use Rattle.std.specs.FinMap as maps
use Rattle.sha2.specs.Hashers.{Holds256}
use Rattle.sha2.specs.Sha256.{sha256}
use Rattle.units.specs.Project.{Project}
use Rattle.byte_streams.specs.Streams.{TookBeginning, RoseOrStands}
use Rattle.byte_streams.proofs.Taking.{append_known-nil}
use Rattle.po_text.specs.declared.entry.Entry.{Entry}
use Rattle.po_text.specs.Texts.{Text}
use Rattle.po_write.specs.Text.{entry_text, text_of, separated}
use Rattle.po_write.proofs.Pushes.{text_of-cons}
use Rattle.office_specification.specs.ExportedEntries.{catalogue_of}
use Rattle.office_specification.specs.ExportText.{export_text}
use Rattle.tables.specs.Entries.{entries_of}
use Rattle.tables.specs.Sinks.{WasCutShort}
use Rattle.tables.specs.declared.faults.EachFault.{EachFault}
use Rattle.tables.specs.declared.faults.EachFault.TheVariants.{NoTables, NoSink}
use Rattle.tables.specs.declared.faults.Lost.TheVariants as lost
use Rattle.office.specs.declared.checksum.Checksum.{Checksum}
use Rattle.office.specs.declared.faults.SendFault.{SendFault}
use Rattle.office.specs.declared.faults.SendFault.TheVariants as send
use Rattle.office.specs.declared.faults.ExportFault.{ExportFault}
use Rattle.office.specs.declared.faults.ExportFault.TheVariants as fault
use Rattle.office.specs.Checksums.{IsChecksum}
use Rattle.office.specs.Sendings.{SentPart, TookEntries, added_text, added-append, begun_after}
use Rattle.office.specs.Exports.{WasExported, WasCut}
use Rattle.office.specs.Faults.{fault_of}
use Rattle.office.proofs.Sent.{sent_then_part}

-- ---- the text of a language

others_added : (es : List Entry) → flat_map (λ e. separated true (entry_text e)) es ≡ added_text true es
others_added [] = refl
others_added (e ∷ es) = ap (λ text. separated true (entry_text e) ++ text) (others_added es)

text_added : (e : Entry) (es : List Entry) → text_of (e ∷ es) ≡ added_text false (e ∷ es)
text_added e es = text_of-cons e es ∙ ap (λ text. entry_text e ++ text) (others_added es)

-- the text of these entries; no text where there are none
abbrev pub text_by : List Entry → Option (List ℕ)
text_by [] = None
text_by (e ∷ es) = Some (added_text false (e ∷ es))

-- a language that is there has entries, the first of which is its header
pub text_there : (project : Project) (lang : Text) → export_text project lang ≡ text_by (entries_of project lang)
unfolding catalogue_of
text_there project lang = by (maps.get project.headers lang)
  where
    by : (header : Option Entry) → option_map (λ h. text_of (catalogue_of project lang h)) header ≡ text_by (option_map_or (catalogue_of project lang) header [])
    by None = refl
    by (Some header) = ap (λ text. Some text) (text_added header _)

text_or_none : (es : List Entry) → unwrap_or (text_by es) [] ≡ added_text false es
text_or_none [] = refl
text_or_none (e ∷ es) = refl

text_with : (front : List Entry) (e : Entry) (rest : List Entry) → text_by (front ++ e ∷ rest) ≡ Some (added_text false (front ++ e ∷ rest))
text_with [] e rest = refl
text_with (x ∷ front) e rest = refl

-- ---- what the call says, by the entries

pub all_exported : {t0 t1 : Option (List ℕ)} {f0 f1 : ℕ} {s0 s1 : Checksum} {b0 b1 begun : Bool} (es : List Entry) (sha : List ℕ) → IsChecksum s0 [] → b0 ≡ false → begun ≡ true → begun ≡ begun_after false es
    → TookEntries t0 t1 f0 f1 s0 s1 b0 b1 es → ((m : List ℕ) → Holds256 s1.digest m → sha ≡ sha256 m) → WasExported (text_by es) t0 t1 (record { bytes = s1.bytes; sha256 = sha })
all_exported [] sha empty first begun after took digest = absurd (false≢true (sym after ∙ begun))
all_exported {t0} {t1} {f0} {f1} {s0} {s1} {b1 = b1} (e ∷ es) sha empty first begun after took digest =
    let sent = (subst (λ b. TookEntries t0 t1 f0 f1 s0 s1 b b1 (e ∷ es)) first took).sent in
    let sum = sent.summed [] empty in
    record { whole = added_text false (e ∷ es); is = refl; taken = sent.taken; bytes = sum.bytes; within = sum.within; digest = digest (added_text false (e ∷ es)) sum.digest }

pub none_exported : {t0 t1 : Option (List ℕ)} {f0 f1 : ℕ} {s0 s1 : Checksum} {b0 b1 begun : Bool} (es : List Entry) → begun ≡ false → begun ≡ begun_after false es → TookEntries t0 t1 f0 f1 s0 s1 b0 b1 es
    → WasCut (text_by es) t0 t1 f0 f1 fault.NoLanguage
none_exported {t0} [] begun after took = (refl, took.sent.taken ∙ append_known-nil t0)
none_exported (e ∷ es) begun after took = absurd (false≢true (sym begun ∙ after))

took_front : {t0 t1 : Option (List ℕ)} {f0 f1 : ℕ} {s0 s1 : Checksum} {begun : Bool} (es front rest : List Entry) → es ≡ front ++ rest → TookEntries t0 t1 f0 f1 s0 s1 false begun front → TookBeginning t0 t1 (unwrap_or (text_by es) [])
took_front es front rest cut took = record {
  front = added_text false front;
  rest = added_text (begun_after false front) rest;
  whole = text_or_none es ∙ ap (added_text false) cut ∙ added-append false front rest;
  taken = took.sent.taken;
}

part_cut : {t0 t2 : Option (List ℕ)} {f0 f2 : ℕ} {s0 : Checksum} (text : List ℕ) (e : SendFault) → IsChecksum s0 [] → SentPart t0 t2 f0 f2 s0 text e → WasCut (Some text) t0 t2 f0 f2 (fault_of (NoSink e))
part_cut text send.Device empty part = record { beginning = part.beginning; count = part.cause }
part_cut text send.Memory empty part = part.beginning
part_cut text send.Long empty part = record { beginning = part.beginning; long = part.cause [] empty }

entry_refused : {t0 t1 t2 : Option (List ℕ)} {f0 f1 f2 : ℕ} {s0 s1 : Checksum} {begun : Bool} (es front rest : List Entry) (entry : Entry) (e : SendFault) → IsChecksum s0 [] → es ≡ front ++ entry ∷ rest
    → TookEntries t0 t1 f0 f1 s0 s1 false begun front → SentPart t1 t2 f1 f2 s1 (separated begun (entry_text entry)) e → WasCut (text_by es) t0 t2 f0 f2 (fault_of (NoSink e))
entry_refused {t0} {t2 = t2} {f0} {f2 = f2} {s0} {begun = begun} es front rest entry e empty cut took part =
    let parted = sent_then_part (added_text true rest) took.sent part in
    let whole : added_text false front ++ (separated begun (entry_text entry) ++ added_text true rest) ≡ added_text false (front ++ entry ∷ rest) =
    ap (λ b. added_text false front ++ added_text b (entry ∷ rest)) took.begun ∙ sym (added-append false front (entry ∷ rest)) in
    let P : Option (List ℕ) → Type 0 = λ text. WasCut text t0 t2 f0 f2 (fault_of (NoSink e)) in
    subst P (sym (ap text_by cut ∙ text_with front entry rest)) (part_cut (added_text false (front ++ entry ∷ rest)) e empty (subst (λ text. SentPart t0 t2 f0 f2 s0 text e) whole parted))

-- ---- the same, of a sink that is told by what its writer took, how often that failed, and its checksum

pub sink_cut : {S N : Type 0} (name : S → N) (taken : S → Option (List ℕ)) (failed : S → ℕ) (sum : S → Checksum) (begun flag : S → Bool) (old new : S) (es : List Entry) (each : EachFault SendFault)
    → begun old ≡ false → IsChecksum (sum old) []
    → WasCutShort (λ a xs b. (name b ≡ name a) × TookEntries (taken a) (taken b) (failed a) (failed b) (sum a) (sum b) (begun a) (begun b) xs × (flag b ≡ begun_after (flag a) xs))
    (λ a entry e b. (name b ≡ name a) × SentPart (taken a) (taken b) (failed a) (failed b) (sum a) (separated (begun a) (entry_text entry)) e) old new es each
    → WasCut (text_by es) (taken old) (taken new) (failed old) (failed new) (fault_of each)
sink_cut name taken failed sum begun flag old new es (NoTables lost.Memory) first empty cut =
    took_front es cut.front cut.rest cut.whole (subst (λ b. TookEntries (taken old) (taken new) (failed old) (failed new) (sum old) (sum new) b (begun new) cut.front) first cut.took.1)
sink_cut name taken failed sum begun flag old new es (NoTables lost.Disk) first empty cut =
    took_front es cut.front cut.rest cut.whole (subst (λ b. TookEntries (taken old) (taken new) (failed old) (failed new) (sum old) (sum new) b (begun new) cut.front) first cut.took.1)
sink_cut name taken failed sum begun flag old new es (NoTables lost.Refused) first empty cut =
    took_front es cut.front cut.rest cut.whole (subst (λ b. TookEntries (taken old) (taken new) (failed old) (failed new) (sum old) (sum new) b (begun new) cut.front) first cut.took.1)
sink_cut name taken failed sum begun flag old new es (NoSink e) first empty cut =
    entry_refused es cut.front cut.rest cut.entry e empty cut.whole
    (subst (λ b. TookEntries (taken old) (taken cut.mid) (failed old) (failed cut.mid) (sum old) (sum cut.mid) b (begun cut.mid) cut.front) first cut.took.1) cut.refused.1

-- ---- what is told of a fault, by the writer's failures

told_is : (text : Option (List ℕ)) (t0 t1 : Option (List ℕ)) (f0 f1 : ℕ) (e told : ExportFault) → WasCut text t0 t1 f0 f1 e → (RoseOrStands f0 f1 → told ≡ e) → (e ≢ fault.Device → told ≡ e) → told ≡ e
told_is None t0 t1 f0 f1 fault.Device told cut failed other = absurd cut
told_is (Some text) t0 t1 f0 f1 fault.Device told cut failed other = failed cut.count
told_is text t0 t1 f0 f1 fault.NoLanguage told cut failed other = other (λ is. cc)
told_is text t0 t1 f0 f1 fault.Memory told cut failed other = other (λ is. cc)
told_is text t0 t1 f0 f1 fault.Disk told cut failed other = other (λ is. cc)
told_is text t0 t1 f0 f1 fault.Long told cut failed other = other (λ is. cc)
told_is text t0 t1 f0 f1 fault.Refused told cut failed other = other (λ is. cc)

-- what the tables say of a fault is told, of a writer that is where the sink's was
pub told_on : (text t0 : Option (List ℕ)) {t1 t2 : Option (List ℕ)} (f0 : ℕ) {f1 f2 before after : ℕ} (e from told : ExportFault) → t1 ≡ t2 → f1 ≡ f2 → before ≡ f0 → after ≡ f2 → from ≡ e → WasCut text t0 t1 f0 f1 e
    → (RoseOrStands before after → told ≡ from) → (from ≢ fault.Device → told ≡ from) → WasCut text t0 t2 f0 f2 told
told_on text t0 {t1} {t2} f0 {f1} {f2} {before} {after} e from told same count first last is cut failed other =
    let now : WasCut text t0 t2 f0 f2 from =
    subst (λ t. WasCut text t0 t f0 f2 from) same (subst (λ f. WasCut text t0 t1 f0 f from) count (subst (λ x. WasCut text t0 t1 f0 f1 x) (sym is) cut)) in
    let rose : RoseOrStands f0 f2 → told ≡ from = subst (λ f. RoseOrStands f f2 → told ≡ from) first (subst (λ f. RoseOrStands before f → told ≡ from) last failed) in
    subst (λ x. WasCut text t0 t2 f0 f2 x) (sym (told_is text t0 t2 f0 f2 from told now rose other)) now

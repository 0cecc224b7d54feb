-- The registry of all managers and templates.
use Rattle.std.specs.Prelude.{◌∷◌, [], List}
use Rattle.tink_registry.specs.Listed.{with_all, Registered}
use Rattle.tink_prf.specs.Templates.{prf_templates}
use Rattle.tink_mac.specs.Templates.{mac_templates}
use Rattle.tink_aead.specs.Templates.{aead_templates}
use Rattle.tink_streaming_aead.specs.Templates.{streaming_templates}
use Rattle.tink_daead.specs.Templates.{daead_templates}
use Rattle.tink.specs.declared.managers.Managers.{Managers}
use Rattle.tink.specs.declared.managers.Managers.TheVariants.{AesCmac, AesCmacPrf, AesCtrHmac, AesCtrHmacAead, AesGcm, AesGcmHkdf, AesGcmSiv, AesSiv, HkdfPrf, Hmac, HmacPrf}

abbrev pub prf_managers : List Managers
prf_managers = HmacPrf ∷ HkdfPrf ∷ AesCmacPrf ∷ []

abbrev pub mac_managers : List Managers
mac_managers = Hmac ∷ AesCmac ∷ []

abbrev pub aead_managers : List Managers
aead_managers = AesCtrHmacAead ∷ AesGcm ∷ AesGcmSiv ∷ []

abbrev pub streaming_managers : List Managers
streaming_managers = AesCtrHmac ∷ AesGcmHkdf ∷ []

abbrev pub daead_managers : List Managers
daead_managers = AesSiv ∷ []

-- a registry of nothing, and then of the managers and templates of each sort
abbrev pub nothing : Registered Managers
nothing = record { managers = []; templates = [] }

abbrev pub with_prfs : Registered Managers
with_prfs = with_all nothing prf_managers prf_templates

abbrev pub with_macs : Registered Managers
with_macs = with_all with_prfs mac_managers mac_templates

abbrev pub with_aeads : Registered Managers
with_aeads = with_all with_macs aead_managers aead_templates

abbrev pub with_streaming_aeads : Registered Managers
with_streaming_aeads = with_all with_aeads streaming_managers streaming_templates

-- all eleven managers, in the order of registration, and all templates, in the order of their names
abbrev pub with_everything : Registered Managers
with_everything = with_all with_streaming_aeads daead_managers daead_templates

-- all eleven managers, and no template
abbrev pub managers_alone : Registered Managers
managers_alone = record { managers = with_everything.managers; templates = [] }

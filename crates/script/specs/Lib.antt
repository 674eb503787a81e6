pub mod Scripts
pub mod ScriptCarrierLemmas

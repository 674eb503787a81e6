pub mod Fades
pub mod Firsts
pub mod Meaning
pub mod Queues
pub mod FadesLemmas
pub mod Lists
pub mod QueueCarrierLemmas

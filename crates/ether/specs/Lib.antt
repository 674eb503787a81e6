pub mod Ethers
pub mod EtherCarrierLemmas

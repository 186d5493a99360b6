-- SPDX-License-Identifier: MPL-2.0
pub mod Writing
pub mod Puts
pub mod Payloads
pub mod ChainBack
pub mod ReadBack
pub mod PayloadBack
